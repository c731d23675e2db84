-- Lists that somebody else made: what each refusal says, when it fits, and what the verdict is. A list
-- has a byte for each application, 1 where it is listed and 0 where it is not. Assumes nothing.
use Rattle.std.specs.Prelude.{◌≡◌, ◌≢◌, ℕ, ◌<◌, ◌≤◌, false, ◌&&◌, List, [], ◌∷◌, ◌++◌, length, Some, None, Ok, Err, codes, decimal, Option, Result, ◌==◌, nat_le, slice_index}
use Rattle.matroid.specs.Sets.{Set, ◌∈◌, ◌∪◌, ◌∖◌}
use Rattle.matroid.specs.Matroids.{Side}
use Rattle.matroid.specs.Kernels.{dominates, Kernel}
use Rattle.parts.specs.Limits.{applications}
use Rattle.parts.specs.declared.numbers.Application.{Application}
use Rattle.clearing.specs.declared.refusal.ListRefusal.{ListRefusal}
use Rattle.clearing.specs.declared.refusal.ListRefusal.TheVariants.{Length, NotAMark, NotLive, DependentOnOne, DependentOnTwo, Undominated}

-- the number of each refusal, and the values that it names
abbrev pub list_refusal : ListRefusal → ℕ × List ℕ
list_refusal Length = (8, [])
list_refusal (NotAMark c) = (10, c.0 ∷ [])
list_refusal (NotLive c) = (11, c.0 ∷ [])
list_refusal (DependentOnOne c) = (12, c.0 ∷ [])
list_refusal (DependentOnTwo c) = (13, c.0 ∷ [])
list_refusal (Undominated c) = (14, c.0 ∷ [])

-- the words for each refusal
abbrev pub list_refusal_text : ListRefusal → List ℕ
list_refusal_text Length = codes "list refused: it is not 256 bytes long"
list_refusal_text (NotAMark c) = codes "list refused: the byte at place " ++ (decimal c.0 ++ codes " is above 1")
list_refusal_text (NotLive c) = codes "list refused: " ++ (decimal c.0 ++ codes " is listed and not live")
list_refusal_text (DependentOnOne c) = codes "list refused: up to " ++ (decimal c.0 ++ codes " it is not independent on side one")
list_refusal_text (DependentOnTwo c) = codes "list refused: up to " ++ (decimal c.0 ++ codes " it is not independent on side two")
list_refusal_text (Undominated c) =
    codes "list refused: " ++ (decimal c.0 ++ codes " is live, not listed, and dominated on neither side")

-- the number of an application, where there is one
abbrev pub only_value : Option Application → List ℕ
only_value None = []
only_value (Some c) = c.0 ∷ []

-- the numbers on the list: those whose byte is 1
abbrev pub listed : List ℕ → Set
listed bytes x = slice_index bytes x == 1

-- the members of S up to n
abbrev pub up_to : ℕ → Set → Set
up_to n S x = S x && nat_le x n

-- P holds of c, and of no smaller number
abbrev pub Smallest : (ℕ → Type 0) → ℕ → Type 0
Smallest P c = P c × ((x : ℕ) → x < c → P x → ⊥)

module _ (one two : Side) (live : Set) (bytes : List ℕ) where
  -- when a refusal fits the list: what it says of the list is so
  abbrev pub IsFault : ListRefusal → Type 0
  IsFault Length = length bytes ≢ applications
  IsFault (NotAMark c) = Smallest (λ x. 1 < slice_index bytes x) c.0
  IsFault (NotLive c) = Smallest (λ x. x ∈ listed bytes ∖ live) c.0
  IsFault (DependentOnOne c) = Smallest (λ n. one.independent (up_to n (listed bytes)) ≡ false) c.0
  IsFault (DependentOnTwo c) = Smallest (λ n. two.independent (up_to n (listed bytes)) ≡ false) c.0
  IsFault (Undominated c) = Smallest (λ x. x ∈ live ∖ (listed bytes ∪ dominates one (listed bytes) ∪ dominates two (listed bytes))) c.0

  -- the list has a byte of 0 or 1 for each application, and those with 1 are a kernel of the live ones
  pub record KernelList : Type 0 where
    pub long : length bytes ≡ applications
    pub marks : (x : ℕ) → slice_index bytes x ≤ 1
    pub kernel : Kernel one two live (listed bytes)

  -- The refusal fits the list, and of those that fit it is the one of the smallest number.
  pub record FirstFault (why : ListRefusal) : Type 0 where
    pub fits : IsFault why
    pub first : (other : ListRefusal) → (list_refusal other).0 < (list_refusal why).0 → IsFault other → ⊥

  -- a kernel is accepted, and any other list refused for its first fault
  abbrev pub Verdict : Result (Unit {0}) ListRefusal → Type 0
  Verdict (Ok _) = KernelList
  Verdict (Err why) = FirstFault why
