use Rattle.matroid.proofs.assignable_means_an_assignment.Goals as goal
use Rattle.matroid.proofs.Assignments.{assignable_by_assignment}

pub returns : goal.returns
returns c = assignable_by_assignment
