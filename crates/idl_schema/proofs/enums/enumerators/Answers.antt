use Rattle.std.proofs.Common.{◌≡◌, ◌<◌, ◌^◌, ℤ, to_z, of_z, w32, w64, ◌∙◌}
use Rattle.std.proofs.lemmas.Int.{to_z-of_z}
use lib.Signed.{mag}
use Rattle.idl_schema.proofs.ItemLaws.{int_here, made_more, numbered_more}
use Rattle.idl_schema.proofs.enums.enumerators.Goals as goal

pub number_at-number-requires-clause-int : goal.number_at-number-requires-clause-int
number_at-number-requires-clause-int c =
    int_here c.args.place.now.text c.args.trees.now c.loop-tree.tree-index _ c.loop-tree-test.true c.requires.ints _ c.loop-tree.invariant.numbered

same_long : (n : ℤ) → mag n < 2 ^ 63 → to_z w64 (of_z w64 n) ≡ n
same_long n h = to_z-of_z w64 n (record { sfits = h })

same_int : (n : ℤ) → mag n < 2 ^ 31 → to_z w32 (of_z w32 n) ≡ n
same_int n h = to_z-of_z w32 n (record { sfits = h })

pub loop-tree-preserved : goal.loop-tree-preserved
loop-tree-preserved c =
    record {
      made = c.in_ok-push.ensures.ok
          ∙ made_more c.args.place.now.text c.args.trees.now c.loop-tree.tree-index _ c.loop-tree-test.true c.requires.ints _ c.loop-tree.invariant.numbered c.loop-tree.items c.in_ok-name.name
          (to_z w32 (of_z w32 c.number_at-number.result)) c.loop-tree.invariant.made (c.in_ok-name.ensures ∙ c.word.ensures) (same_int c.number_at-number.result c.number_at-number.type_inv ∙ c.number_at-number.ensures);
      numbered = same_long c.after-next.result c.after-next.type_inv
          ∙ numbered_more c.args.place.now.text c.args.trees.now c.loop-tree.tree-index _ c.loop-tree-test.true c.requires.ints _ c.loop-tree.invariant.numbered (to_z w32 (of_z w32 c.number_at-number.result)) c.after-next.result
          (same_int c.number_at-number.result c.number_at-number.type_inv ∙ c.number_at-number.ensures) c.after-next.ensures;
    }
