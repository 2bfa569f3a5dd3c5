use Rattle.std.proofs.Common.{◌≡◌, true, map, take, drop}
use Rattle.std.specs.List.{list_all}
use Rattle.tars_model.specs.Values.{told, entry_fits, fit_told}
use Rattle.tars_model.proofs.fitting.+fits.Given as goal

abbrev pub invariant-all_fit-loop-value : goal.invariant-all_fit-loop-value
invariant-all_fit-loop-value l = list_all (λ v. (told v).fits l.schema l.ty) (take l.value-index l.values) ≡ true

abbrev pub invariant-entries_fit-loop-pair : goal.invariant-entries_fit-loop-pair
invariant-entries_fit-loop-pair l = list_all (entry_fits l.schema l.key l.to) (take l.pair-index l.pairs) ≡ true

-- what is left decides
abbrev pub invariant-members_fit-loop-k : goal.invariant-members_fit-loop-k
invariant-members_fit-loop-k l = fit_told l.schema (drop l.k l.members) (map told (drop l.k l.values)) ≡ fit_told l.schema l.members (map told l.values)
