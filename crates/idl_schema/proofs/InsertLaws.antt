-- A member that is put among others, as `insert` does it.
use Rattle.std.proofs.Common.{◌≡◌, ◌<◌, ◌+◌, ℕ, suc, Bool, true, false, cond, List, [], ◌∷◌, ◌++◌, length, map, take, get_or, refl, sym, ap, ◌∙◌, ◌≤◌, subst, arith}
use Rattle.std.proofs.lemmas.Grind.{fold-append}
use Rattle.std.proofs.lemmas.List.{take_more, map-append}
use Rattle.std.proofs.lemmas.List.Recursion.{is_position_or_len}
use Rattle.std.specs.List.{insert, position_or_len}
use Rattle.std.specs.Prelude.{nat_lt}
use Rattle.tars_model.specs.declared.member.Member.{Member}
use Rattle.idl_parse.specs.declared.tree.member.MemberTree.{MemberTree}
use Rattle.idl_schema.specs.SchemaOf.{Place, put_member, in_tag_order, member_of}

abbrev pub above : Member → Member → Bool
above m other = nat_lt m.tag other.tag

-- where it goes
abbrev place_at : Member → List Member → ℕ
place_at m [] = 0
place_at m (other ∷ ms) = cond (above m other) 0 (1 + place_at m ms)

put_at : (m : Member) (ms : List Member) → insert ms (place_at m ms) m ≡ put_member m ms
put_at m [] = refl
put_at m (other ∷ ms) = by_test (above m other) (put_at m ms)
  where
    by_test : (b : Bool) → insert ms (place_at m ms) m ≡ put_member m ms → insert (other ∷ ms) (cond b 0 (1 + place_at m ms)) m ≡ cond b (m ∷ other ∷ ms) (other ∷ put_member m ms)
    by_test true rest = refl
    by_test false rest =
        let next : 1 + place_at m ms ≡ suc (place_at m ms) = omega arith in
        ap (λ k. insert (other ∷ ms) k m) next ∙ ap (λ (l : List Member). other ∷ l) rest

pub inserted : (m : Member) (ms : List Member) → insert ms (position_or_len (above m) ms) m ≡ put_member m ms
inserted m ms = ap (λ k. insert ms k m) (sym (is_position_or_len (place_at m) (above m) refl (λ x xs. refl) ms)) ∙ put_at m ms

place_within : (m : Member) (ms : List Member) → place_at m ms ≤ length ms
place_within m [] = omega arith
place_within m (other ∷ ms) = by_test (above m other) (place_within m ms)
  where
    by_test : (b : Bool) → place_at m ms ≤ length ms → cond b 0 (1 + place_at m ms) ≤ suc (length ms)
    by_test true rest = omega arith
    by_test false rest = omega arith

pub position_within : (m : Member) (ms : List Member) → position_or_len (above m) ms ≤ length ms
position_within m ms = subst (λ (k : ℕ). k ≤ length ms) (is_position_or_len (place_at m) (above m) refl (λ x xs. refl) ms) (place_within m ms)

-- one member more
pub order_more : (p : Place) (trees : List MemberTree) (i : ℕ) (tree : MemberTree) → i < length trees → tree ≡ get_or trees i tree
    → in_tag_order (map (member_of p) (take (i + 1) trees)) ≡ put_member (member_of p tree) (in_tag_order (map (member_of p) (take i trees)))
order_more p trees i tree within is =
    ap (λ l. in_tag_order (map (member_of p) l)) (take_more trees i tree within ∙ ap (λ e. take i trees ++ (e ∷ [])) (sym is))
    ∙ ap in_tag_order (map-append (member_of p) (take i trees) (tree ∷ []))
    ∙ fold-append (λ sorted m. put_member m sorted) [] (map (member_of p) (take i trees)) (member_of p tree ∷ [])
