-- What holds of each item of a list.
use Rattle.std.proofs.Common.{List, [], ◌∷◌, All}
use Rattle.std.proofs.lemmas.List.Elements.{recursion_from_All}
use Rattle.std.specs.List.{AllByRecursion}

pub each_so : {T : Type 0} (P Q : T → Type 0) → ((x : T) → P x → Q x) → (xs : List T) → AllByRecursion P xs → AllByRecursion Q xs
each_so P Q goes [] all = tt
each_so P Q goes (x ∷ xs) all = (goes x all.0, each_so P Q goes xs all.1)

pub each_both : {T : Type 0} (P Q R : T → Type 0) → ((x : T) → P x → Q x → R x) → (xs : List T) → AllByRecursion P xs → AllByRecursion Q xs → AllByRecursion R xs
each_both P Q R goes [] ps qs = tt
each_both P Q R goes (x ∷ xs) ps qs = (goes x ps.0 qs.0, each_both P Q R goes xs ps.1 qs.1)

pub each_of : {T : Type 0} (P Q : T → Type 0) → ((x : T) → P x → Q x) → (xs : List T) → All P xs → AllByRecursion Q xs
each_of P Q goes xs all = each_so P Q goes xs (recursion_from_All P xs all)

pub each_of_both : {T : Type 0} (P Q R : T → Type 0) → ((x : T) → P x → Q x → R x) → (xs : List T) → All P xs → All Q xs → AllByRecursion R xs
each_of_both P Q R goes xs ps qs = each_both P Q R goes xs (recursion_from_All P xs ps) (recursion_from_All Q xs qs)
