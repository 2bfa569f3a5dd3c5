-- Types are read as the grammar has them, by the room that is left.
use Rattle.std.proofs.Common.{◌≡◌, ℕ, zero, suc, ◌+◌, ◌<◌, ◌≤◌, Bool, true, false, cond, None, Ok, Err, List, [], ◌∷◌, ◌++◌, refl, sym, ap, ◌∙◌, arith, inl, inr}
use Rattle.facts.proofs.ResultLaws.{bind_gave}
use Rattle.std.proofs.lemmas.Bool.{cases_Bool}
use Rattle.idl_parse.specs.Grammar.{Mark, VectorOf, MapOf, UnsignedOf, NamedOf, BasicOf, TypeOf}
use Rattle.idl_parse.specs.KindSteps.{same_kind, holds, begins}
use Rattle.idl_parse.specs.ReadSteps.{Stop, Read, one_at, mark_at, span_at, means_at, after_at, vector_at, map_at, flat_at, unsigned_at, named_at, scoped_at, basic_at, is_type_start, no_room_at, type_with, type_at}
use Rattle.idl_parse.specs.Rules.{Rel, ◌⟫◌, Either}
use Rattle.idl_lex.specs.declared.keyword.Keyword.TheVariants as words
use Rattle.idl_lex.specs.declared.kind.Kind.{Kind}
use Rattle.idl_lex.specs.declared.kind.Kind.TheVariants as kinds
use Rattle.idl_parse.specs.declared.parse_fault.ParseWhy.TheVariants.{Unexpected, TooDeep}
use Rattle.idl_lex.specs.declared.sign.Sign.{Sign}
use Rattle.idl_lex.specs.declared.sign.Sign.TheVariants as signs
use Rattle.idl_lex.specs.declared.sign.Sign.TheVariants.{Less, Greater, Comma, PathSep}
use Rattle.idl_lex.specs.declared.token.Token.{Token}
use Rattle.idl_parse.specs.declared.tree.type_tree.BasicType.TheVariants as basics
use Rattle.idl_parse.specs.declared.tree.type_tree.TypeTree.{TypeTree}
use Rattle.idl_parse.specs.declared.tree.type_tree.TypeTree.TheVariants as types
use Rattle.idl_parse.proofs.Parsing.Combining.Choice.{one_kind}
use Rattle.idl_parse.proofs.Parsing.Combining.Combine.{next, done, either, regroup, next_core, done_core, one_core, regroup_core, next_where}
use Rattle.idl_parse.proofs.Parsing.Combining.Heads.{begins_is}
use Rattle.idl_parse.proofs.Parsing.Combining.Leaves.{one, sample}
use Rattle.idl_parse.proofs.Parsing.Deriving.Literals.{basic_words, flat}
use Rattle.idl_parse.proofs.Parsing.Combining.Readers.{Reader, halted, too_deep, Shape, starts, Fresh, some_more, Reads, core_of, kept_as, stayed_as, deep_as, filled_as}

abbrev pub type_words : List Kind
type_words = kinds.Keyword words.Vector ∷ kinds.Keyword words.Map ∷ kinds.Keyword words.Unsigned ∷ kinds.Ident ∷ basic_words

abbrev pub type_shape : Shape
type_shape = record { first = type_words; follow = kinds.Sign PathSep ∷ []; empty = false }

module _ (k n limit a : ℕ) (within : a < limit) (Inner : Rel TypeTree) (inner : Reader TypeTree)
    (inside : Reads k n limit (suc a) (suc a) type_shape Inner inner)
    (room : (ts : List Token) (x : TypeTree) (rest : List Token) → inner n ts ≡ Ok (x, rest) → suc a < limit) where
  opening : Reads k n limit a (suc a) (one_kind (kinds.Sign Less) (kinds.Sign PathSep ∷ [])) (Mark Less ⟫ λ _. Inner) (λ m. after_at Less (inner m))
  opening = let r = next refl (one k n limit a (suc a) (kinds.Sign Less) within refl) (λ _. inside) in r

  room_after : (ts : List Token) (x : TypeTree) (rest : List Token) → after_at Less (inner n) ts ≡ Ok (x, rest) → suc a < limit
  room_after ts x rest e = let p = bind_gave (mark_at Less ts) (λ mark. inner n mark.1) (x, rest) e in room p.0.1 x rest p.2

  vector : Reads k n limit a a (one_kind (kinds.Keyword words.Vector) []) (VectorOf Inner) (λ m. vector_at (inner m))
  unfolding vector_at holds same_kind
  vector =
      let r = next refl (one k n limit a a (kinds.Keyword words.Vector) within refl) (λ vector. regroup (next_where refl opening
      (λ element. next_core refl (one_core (kinds.Sign Greater)) (λ _. done_core (types.Vector vector.start element)))
      (λ element ts mid lt e. next refl (one k n limit (suc a) a (kinds.Sign Greater) (room_after ts element mid e) refl) (λ _. done (types.Vector vector.start element))))) in r

  map : Reads k n limit a a (one_kind (kinds.Keyword words.Map) []) (MapOf Inner) (λ m. map_at (inner m))
  unfolding map_at holds same_kind
  map =
      let r = next refl (one k n limit a a (kinds.Keyword words.Map) within refl) (λ map. regroup (next_where refl opening
      (λ key. regroup_core (next_core refl (next_core refl (one_core (kinds.Sign Comma)) (λ _. core_of inside)) (λ value.
      next_core refl (one_core (kinds.Sign Greater)) (λ _. done_core (types.Map map.start key value)))))
      (λ key ts mid lt e. regroup (next refl (next refl (one k n limit (suc a) (suc a) (kinds.Sign Comma) (room_after ts key mid e) refl) (λ _. inside)) (λ value.
      next refl (one k n limit (suc a) a (kinds.Sign Greater) (room_after ts key mid e) refl) (λ _. done (types.Map map.start key value))))))) in r

  around : Reads k n limit a a type_shape (Either (VectorOf Inner) (Either (MapOf Inner) (Either UnsignedOf (Either NamedOf BasicOf)))) (λ m. type_with (inner m))
  unfolding type_with holds same_kind
  around = let r = either refl vector (either refl map (flat k n limit a within)) in r

-- ---- where no room is left

abbrev word : words.the_data → Token
word w = sample (kinds.Keyword w)

abbrev sign : signs.the_data → Token
sign s = sample (kinds.Sign s)

int_type : TypeTree
int_type = types.Basic 0 basics.Int

-- a token that begins no type is refused at any depth
around_refused : (m : ℕ) (kind : Kind) (start end : ℕ) (others : List Token) → is_type_start kind ≡ false → type_with (type_at m) (record { kind = kind; start = start; end = end } ∷ others) ≡ halted (record { kind = kind; start = start; end = end } ∷ others)
unfolding type_with flat_at basic_at means_at begins same_kind
around_refused m kinds.Ident start end others is = cc
around_refused m (kinds.Keyword words.Bool) start end others is = cc
around_refused m (kinds.Keyword words.Byte) start end others is = cc
around_refused m (kinds.Keyword words.Short) start end others is = cc
around_refused m (kinds.Keyword words.Int) start end others is = cc
around_refused m (kinds.Keyword words.Long) start end others is = cc
around_refused m (kinds.Keyword words.Float) start end others is = cc
around_refused m (kinds.Keyword words.Double) start end others is = cc
around_refused m (kinds.Keyword words.String) start end others is = cc
around_refused m (kinds.Keyword words.Vector) start end others is = cc
around_refused m (kinds.Keyword words.Map) start end others is = cc
around_refused m (kinds.Keyword words.Unsigned) start end others is = cc
around_refused m (kinds.Sign signs.OpenBrace) start end others is = refl
around_refused m _ start end others is = refl

refused : (m : ℕ) (kind : Kind) (start end : ℕ) (others : List Token) → is_type_start kind ≡ false → type_at m (record { kind = kind; start = start; end = end } ∷ others) ≡ halted (record { kind = kind; start = start; end = end } ∷ others)
unfolding type_at no_room_at
refused zero kind start end others is = rw is refl
refused (suc m) kind start end others is = around_refused m kind start end others is

-- one that begins a type is completed where there is more room
record Completed (t : Token) : Type 0 where
  more : List Token
  value : TypeTree
  fills : (m : ℕ) → 1 < m → (tail : List Token) → (starts (kinds.Sign PathSep ∷ []) tail ≡ true → ⊥) → type_at m (t ∷ (more ++ tail)) ≡ Ok (value, tail)

two_more : (m : ℕ) → 1 < m → (p : ℕ) × (m ≡ suc (suc p))
two_more zero lt = absurd (omega arith)
two_more (suc zero) lt = absurd (omega arith)
two_more (suc (suc m)) lt = (m, refl)

by_two : (t : Token) (more : List Token) (value : TypeTree) → ((m : ℕ) (tail : List Token) → (starts (kinds.Sign PathSep ∷ []) tail ≡ true → ⊥) → type_at (suc (suc m)) (t ∷ (more ++ tail)) ≡ Ok (value, tail)) → Completed t
by_two t more value fills = record {
  more = more;
  value = value;
  fills = λ m lt tail free. let p = two_more m lt in rw p.1 (fills p.0 tail free);
}

completed : (kind : Kind) (start end : ℕ) → is_type_start kind ≡ true → Completed (record { kind = kind; start = start; end = end })
unfolding type_at type_with flat_at basic_at means_at begins same_kind unsigned_at one_at vector_at map_at named_at scoped_at span_at
completed (kinds.Keyword words.Bool) start end is = by_two _ [] (types.Basic start basics.Bool) (λ m tail free. refl)
completed (kinds.Keyword words.Byte) start end is = by_two _ [] (types.Basic start basics.Byte) (λ m tail free. refl)
completed (kinds.Keyword words.Short) start end is = by_two _ [] (types.Basic start basics.Short) (λ m tail free. refl)
completed (kinds.Keyword words.Int) start end is = by_two _ [] (types.Basic start basics.Int) (λ m tail free. refl)
completed (kinds.Keyword words.Long) start end is = by_two _ [] (types.Basic start basics.Long) (λ m tail free. refl)
completed (kinds.Keyword words.Float) start end is = by_two _ [] (types.Basic start basics.Float) (λ m tail free. refl)
completed (kinds.Keyword words.Double) start end is = by_two _ [] (types.Basic start basics.Double) (λ m tail free. refl)
completed (kinds.Keyword words.String) start end is = by_two _ [] (types.Basic start basics.Text) (λ m tail free. refl)
completed (kinds.Keyword words.Unsigned) start end is = by_two _ (word words.Int ∷ []) (types.Basic start basics.UnsignedInt) (λ m tail free. refl)
completed (kinds.Keyword words.Vector) start end is =
    by_two _ (sign Less ∷ word words.Int ∷ sign Greater ∷ []) (types.Vector start (types.Basic 0 basics.Int)) (λ m tail free. refl)
completed (kinds.Keyword words.Map) start end is =
    by_two _ (sign Less ∷ word words.Int ∷ sign Comma ∷ word words.Int ∷ sign Greater ∷ []) (types.Map start (types.Basic 0 basics.Int) (types.Basic 0 basics.Int)) (λ m tail free. refl)
completed kinds.Ident start end is =
    by_two _ [] (types.Named (record { scope = None; name = record { start = start; end = end } }))
    (λ m tail free. rw (not_begun tail free) refl)
  where
    not_begun : (tail : List Token) → (starts (kinds.Sign PathSep ∷ []) tail ≡ true → ⊥) → begins (kinds.Sign PathSep) tail ≡ false
    not_begun tail free = elim (cases_Bool (begins (kinds.Sign PathSep) tail)) [ inl b ↦ absurd (free (sym (begins_is (kinds.Sign PathSep) tail) ∙ b)) | inr b ↦ b ]
completed _ start end is = cc

abbrev read_ok : TypeTree → List Token → Read TypeTree
read_ok x rest = Ok (x, rest)

stop_or : Stop → Read TypeTree → Stop
stop_or d (Ok p) = d
stop_or d (Err s) = s

abbrev failed : Stop → Read TypeTree
failed s = Err s

stop_of : {s t : Stop} → failed s ≡ failed t → s ≡ t
unfolding stop_or
stop_of {s = s} e = ap (stop_or s) e

wrong : TooDeep ≡ Unexpected → ⊥
wrong e = cc

first_of_same : {t u : Token} {ts us : List Token} → t ∷ ts ≡ u ∷ us → t ≡ u
first_of_same e = cc

no_room_never : (ts : List Token) (x : TypeTree) (rest : List Token) → no_room_at ts ≡ Ok (x, rest) → ⊥
unfolding no_room_at
no_room_never [] x rest e = cc
no_room_never (t ∷ ts) x rest e = by_test (is_type_start t.kind) e
  where
    by_test : (b : Bool) → cond b (too_deep (t ∷ ts)) (halted (t ∷ ts)) ≡ read_ok x rest → ⊥
    by_test true e = cc
    by_test false e = cc

-- why there is no type here
record NoRoom (ts : List Token) (s : Stop) (start : Bool) : Type 0 where
  is : s.left ≡ ts
  told : (t : Token) (l : List Token) → ts ≡ t ∷ l → is_type_start t.kind ≡ start

no_room_stays : (ts left : List Token) → no_room_at ts ≡ halted left → NoRoom ts (record { left = left; why = Unexpected }) false
unfolding no_room_at
no_room_stays [] left e = record { is = ap (λ s. s.left) (sym (stop_of e)); told = λ t l is. cc }
no_room_stays (u ∷ us) left e = by_test (is_type_start u.kind) refl e
  where
    by_test : (b : Bool) → is_type_start u.kind ≡ b → cond b (too_deep (u ∷ us)) (halted (u ∷ us)) ≡ halted {B = TypeTree × List Token} left → NoRoom (u ∷ us) (record { left = left; why = Unexpected }) false
    by_test true is e = absurd (wrong (ap (λ s. s.why) (stop_of e)))
    by_test false is e = record { is = ap (λ s. s.left) (sym (stop_of e)); told = λ t l same. ap (λ v. is_type_start v.kind) (sym (first_of_same same)) ∙ is }

record BeginsDeep (ts left : List Token) : Type 0 where
  next : Token
  others : List Token
  whole : ts ≡ left
  is : left ≡ next ∷ others
  start : is_type_start next.kind ≡ true

no_room_deep : (ts left : List Token) → no_room_at ts ≡ too_deep left → BeginsDeep ts left
unfolding no_room_at
no_room_deep [] left e = absurd (wrong (sym (ap (λ s. s.why) (stop_of e))))
no_room_deep (u ∷ us) left e = by_test (is_type_start u.kind) refl e
  where
    by_test : (b : Bool) → is_type_start u.kind ≡ b → cond b (too_deep (u ∷ us)) (halted (u ∷ us)) ≡ too_deep {B = TypeTree × List Token} left → BeginsDeep (u ∷ us) left
    by_test true is e = record { next = u; others = us; whole = ap (λ s. s.left) (stop_of e); is = ap (λ s. s.left) (sym (stop_of e)); start = is }
    by_test false is e = absurd (wrong (sym (ap (λ s. s.why) (stop_of e))))

int_again : (m : ℕ) → 0 < m → (tail : List Token) → type_at m (word words.Int ∷ tail) ≡ Ok (types.Basic 0 basics.Int, tail)
unfolding type_at type_with flat_at basic_at means_at begins same_kind
int_again zero lt tail = absurd (omega arith)
int_again (suc m) lt tail = refl

int_fresh : Fresh type_shape (word words.Int ∷ [])
unfolding holds same_kind
int_fresh = some_more refl

no_types : (k limit a : ℕ) → limit ≡ a → Reads k 0 limit a a type_shape (TypeOf 0) type_at
unfolding type_at
no_types k limit a at_limit = record {
  sound = λ ts x rest lt e. absurd (no_room_never ts x rest e);
  complete = λ ts x rest lt d free. absurd d;
  begun = λ ts x rest lt d. absurd d;
  keeps = λ ts x rest lt e. absurd (no_room_never ts x rest e);
  stays = λ ts left lt e.
      let r = no_room_stays ts left e in
      record {
        prefix = [];
        whole = sym r.is;
        more = word words.Int ∷ [];
        value = types.Basic 0 basics.Int;
        fresh = λ none. int_fresh;
        fills = λ m above tail free. int_again m above tail;
        stuck = λ t l is m le others. refused m t.kind t.start t.end others (r.told t l (sym r.is ∙ is));
        shallow = tt;
      };
  deep = λ ts left lt e.
      let r = no_room_deep ts left e in
      let c = completed r.next.kind r.next.start r.next.end r.start in
      record {
        prefix = [];
        next = r.next;
        others = r.others;
        whole = r.whole;
        is = r.is;
        more = c.more;
        value = c.value;
        fills = λ m above tail free. c.fills m above tail free;
        shallow = tt;
        open_after = sym at_limit;
      };
  filled = record {
    more = word words.Int ∷ [];
    value = types.Basic 0 basics.Int;
    fresh = int_fresh;
    fills = λ m above tail free. int_again m above tail;
  };
}

-- ---- by the room

-- one more room
deeper : {A : Type 0} (k n limit a b : ℕ) (S : Shape) (D : Rel A) (f : Reader A) → Reads k n limit a b S D (λ m. f (suc m)) → Reads k (suc n) limit a b S D f
deeper k n limit a b S D f r = record {
  sound = r.sound;
  complete = r.complete;
  begun = r.begun;
  keeps = λ ts x rest lt e.
      let h = r.keeps ts x rest lt e in
      kept_as (suc n) S f h (λ m le more ok. let p = above m n le in rw p.1 (h.again p.0 p.2 more ok));
  stays = λ ts left lt e.
      let h = r.stays ts left lt e in
      stayed_as (suc n) S f h h.fresh
      (λ m lt tail free. let p = above m (suc n) lt in rw p.1 (h.fills p.0 p.2 tail free))
      (λ t l is m le others. let p = above m n le in rw p.1 (h.stuck t l is p.0 p.2 others));
  deep = λ ts left lt e.
      let h = r.deep ts left lt e in
      deep_as (suc n) S f h (λ m lt tail free. let p = above m (suc (suc n)) lt in rw p.1 (h.fills p.0 p.2 tail free));
  filled =
      let h = r.filled in
      filled_as (suc n) S f h h.fresh (λ m lt tail free. let p = above m (suc n) lt in rw p.1 (h.fills p.0 p.2 tail free));
}
  where
    above : (m n : ℕ) → suc n ≤ m → (p : ℕ) × (m ≡ suc p) × (n ≤ p)
    above zero n le = absurd (omega arith)
    above (suc m) n le = (m, refl, omega arith)

room_used : (n limit a : ℕ) → limit ≡ suc a + n → (ts : List Token) (x : TypeTree) (rest : List Token) → type_at n ts ≡ Ok (x, rest) → suc a < limit
unfolding type_at
room_used zero limit a is ts x rest e = absurd (no_room_never ts x rest e)
room_used (suc n) limit a is ts x rest e = omega arith

pub type_laws : (k n limit a : ℕ) → limit ≡ a + n → Reads k n limit a a type_shape (TypeOf n) type_at
unfolding type_at
type_laws k zero limit a is = no_types k limit a (omega arith)
type_laws k (suc n) limit a is =
    let inside = type_laws k n limit (suc a) (omega arith) in
    let r = around k n limit a (omega arith) (TypeOf n) type_at inside (room_used n limit a (omega arith)) in
    deeper k n limit a a type_shape (TypeOf (suc n)) type_at r
