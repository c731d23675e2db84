-- The sets that a gate lets through are those of a matroid: all of them, or those without a member.
-- Assumes nothing.
use Rattle.std.specs.Prelude.{Bool, true, false, refl}
use Rattle.std.proofs.Common.{arith}
use Rattle.std.proofs.lemmas.Bool.{eq-eqb, eqb-true}
use Rattle.matroid.specs.Matroids.{Matroid}
use Rattle.matroid.specs.Sets.{∅, card}
use Rattle.matroid.proofs.Cards.{card_empty, card_finds, card_mono}
use Rattle.parts.specs.Limits.{applications}
use Rattle.cases.specs.Foreign.{let_through}

pub gate_matroid : (lets : Bool) → Matroid applications (let_through lets)
gate_matroid true = record {
  empty = refl;
  subset = λ S U part passes. refl;
  exchange = λ S U passesS passesU more.
      let (x, low, member, out) = card_finds applications S U more in
      (x, low, member, out, refl);
}
gate_matroid false = record {
  empty = eq-eqb (card applications ∅) 0 (card_empty applications);
  subset = λ S U part none.
      eq-eqb (card applications S) 0
      (omega (arith, card_mono applications S U part, eqb-true (card applications U) 0 none));
  exchange = λ S U noneS noneU more. absurd (omega (arith, eqb-true (card applications U) 0 noneU));
}
