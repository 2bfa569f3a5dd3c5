-- Two lists in one.
use Rattle.std.specs.Prelude.{List, [], ◌∷◌}

-- the third list has the items of both, each once, those of either in their order
pub data IsMerge {X : Type 0} : List X → List X → List X → Type 0 where
  none : IsMerge [] [] []
  from_left : {x : X} {left right merged : List X} → IsMerge left right merged → IsMerge (x ∷ left) right (x ∷ merged)
  from_right : {x : X} {left right merged : List X} → IsMerge left right merged → IsMerge left (x ∷ right) (x ∷ merged)
