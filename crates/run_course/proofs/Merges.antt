-- More at the end of either of two lists stands at the end of their merge.
use Rattle.std.proofs.Common.{List, [], ◌∷◌, ◌++◌}
use Rattle.run_course.specs.Merges.{IsMerge, none, from_left, from_right}

all_left : {X : Type 0} (more : List X) → IsMerge more [] more
all_left [] = none
all_left (x ∷ more) = from_left (all_left more)

all_right : {X : Type 0} (more : List X) → IsMerge [] more more
all_right [] = none
all_right (x ∷ more) = from_right (all_right more)

pub left_goes_on : {X : Type 0} {left right merged : List X} (more : List X) → IsMerge left right merged → IsMerge (left ++ more) right (merged ++ more)
left_goes_on more none = all_left more
left_goes_on more (from_left merge) = from_left (left_goes_on more merge)
left_goes_on more (from_right merge) = from_right (left_goes_on more merge)

pub right_goes_on : {X : Type 0} {left right merged : List X} (more : List X) → IsMerge left right merged → IsMerge left (right ++ more) (merged ++ more)
right_goes_on more none = all_right more
right_goes_on more (from_left merge) = from_left (right_goes_on more merge)
right_goes_on more (from_right merge) = from_right (right_goes_on more merge)
