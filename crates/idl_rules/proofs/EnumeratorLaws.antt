-- One enumerator more.
use Rattle.std.proofs.Common.{◌≡◌, ℕ, ◌+◌, ◌<◌, Option, List, [], ◌++◌, length, get_or, take, ℤ, sym, ap, ◌∙◌, subst}
use Rattle.std.specs.Prelude.{pos}
use Rattle.least_fault.specs.Least.{Notes}
use Rattle.idl_parse.specs.declared.tree.decl.EnumItem.{EnumItem}
use Rattle.idl_scene.specs.Faults.{is_below}
use Rattle.idl_scene.specs.Known.{Scene}
use Rattle.idl_scene.specs.Literals.{number_after, number_at, next_number}
use Rattle.idl_scene.specs.declared.check_fault.Fault.{Fault}
use Rattle.idl_scene.proofs.FaultLaws.{noted_both, noted_nothing}
use Rattle.idl_rules.specs.Conditions.{enumerator_rules}
use Rattle.idl_rules.specs.JudgeSteps.{found_at, found_in}
use Rattle.idl_rules.specs.PartSteps.{faults_of_number}
use Rattle.idl_rules.proofs.LoopLaws.{fold_more, found_more}

module _ (s : Scene) (items : List EnumItem) (i : ℕ) (x : EnumItem) (within : i < length items) (is : x ≡ get_or items i x) (next : ℤ) (e : next ≡ next_number s.text (take i items)) where
  pub number_next : number_after (number_at s.text next x.number) ≡ next_number s.text (take (i + 1) items)
  number_next =
      ap (λ n. number_after (number_at s.text n x.number)) e
      ∙ sym (fold_more (λ next (i : EnumItem). number_after (number_at s.text next i.number)) (pos 0) items i x within is)

  pub items_next : {old mid new : Option Fault} → Notes is_below old mid (found_in enumerator_rules s (take i items)) → Notes is_below mid new (faults_of_number s x (number_at s.text next x.number)) → Notes is_below old new (found_in enumerator_rules s (take (i + 1) items))
  items_next {old} {mid} {new} so_far here =
      found_more items i x within is (found_at enumerator_rules s) so_far
      (subst (λ n. Notes is_below mid new (faults_of_number s x (number_at s.text n x.number) ++ [])) e (noted_both here (noted_nothing new)))
