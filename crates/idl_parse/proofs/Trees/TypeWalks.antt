-- Names, literals and types, token by token (`Walks`).
use Rattle.std.proofs.Common.{◌≡◌, ℕ, zero, suc, ◌-◌, ◌<◌, Option, Some, None, List, [], ◌∷◌, ◌++◌, length, refl, ap, arith, subst}
use Rattle.idl_parse.specs.Depth.{Shallow}
use Rattle.idl_parse.specs.Grammar.{Scoped, Array, LiteralOf, VectorOf, MapOf, UnsignedOf, NamedOf, BasicOf, TypeOf, Typed}
use Rattle.idl_parse.specs.TreeSpans.{StandsAt, IfThere, NameIn, ScopedIn, kind_of, LiteralIn, TypeIn, basic, named, vector, map, TypedIn, ArrayIn}
use Rattle.idl_parse.specs.Rules.{Rel, Either}
use Rattle.idl_lex.specs.Spans.{span}
use Rattle.idl_parse.specs.Words.{basic_of, unsigned_of, literal_of, scoped_name}
use Rattle.idl_lex.specs.declared.keyword.Keyword.TheVariants as words
use Rattle.idl_lex.specs.declared.kind.Kind.{Kind}
use Rattle.idl_lex.specs.declared.kind.Kind.TheVariants as kinds
use Rattle.idl_lex.specs.declared.sign.Sign.TheVariants.{OpenBracket, CloseBracket, Less, Greater, Comma, PathSep}
use Rattle.idl_lex.specs.declared.span.Span.{Span}
use Rattle.idl_lex.specs.declared.token.Token.{Token}
use Rattle.idl_parse.specs.declared.tree.literal.LiteralWord.{LiteralWord}
use Rattle.idl_parse.specs.declared.tree.type_tree.TypeTree.{TypeTree}
use Rattle.idl_parse.proofs.Parsing.Deriving.Literals.{literals_flat, basics_flat, unsigned_flat}
use Rattle.idl_parse.proofs.Parsing.Combining.Readers.{Begun, has_some, has_none}
use Rattle.idl_parse.proofs.Parsing.Deriving.TypeLaws.{type_shape, type_laws}
use Rattle.idl_parse.proofs.Trees.Walks.{Walks, after, gives, one, means, either, maybe, saying, spanned}

scoped_in : (text : List ℕ) (first : Span) (second : Option Span) → NameIn text first → IfThere (NameIn text) second → ScopedIn text (scoped_name first second)
scoped_in text first None f s = (tt, f)
scoped_in text first (Some name) f s = (f, s)

pub scoped : {text : List ℕ} {limit a : ℕ} → Walks text limit a a Scoped Scoped (ScopedIn text)
scoped {text = text} = after (spanned kinds.Ident refl) (λ first. after (maybe (after (one (kinds.Sign PathSep) refl) (λ _. saying (λ s e _. e) (spanned kinds.Ident refl)))) (λ second. gives (λ s f. scoped_in text first second f s)))

pub array : {text : List ℕ} {limit a : ℕ} → Walks text limit a a Array Array (ArrayIn text)
array = after (one (kinds.Sign OpenBracket) refl) (λ bracket. after (spanned kinds.Number refl) (λ number. after (one (kinds.Sign CloseBracket) refl) (λ _. gives (λ _ e _. e))))

same_word : {v w : LiteralWord} → Some v ≡ Some w → v ≡ w
same_word e = cc

literal_kind : (kind : Kind) (word : LiteralWord) → literal_of kind ≡ Some word → kind ≡ kind_of word
literal_kind kinds.Number word is = ap kind_of (same_word is)
literal_kind kinds.Fraction word is = ap kind_of (same_word is)
literal_kind kinds.Text word is = ap kind_of (same_word is)
literal_kind (kinds.Keyword words.True) word is = ap kind_of (same_word is)
literal_kind (kinds.Keyword words.False) word is = ap kind_of (same_word is)
literal_kind _ word is = cc

pub literal : {text : List ℕ} {limit a : ℕ} → Walks text limit a a LiteralOf LiteralOf (LiteralIn text)
literal {text = text} {a = a} =
    either (after scoped (λ name. gives (λ e. e)))
    (after (means literal_of (λ kind x is. literals_flat kind x a is)) (λ word. gives (λ e. subst (λ k. StandsAt text k (span word.0)) (literal_kind word.0.kind word.1 e.0) e.1)))

-- ---- types

-- something stands in a type, so that fewer are open before it than may be
room_before : (limit a depth : ℕ) (ts rest prefix : List Token) (x : TypeTree) → TypeOf depth ts x rest → ts ≡ prefix ++ rest → Shallow limit a prefix → a < limit
room_before limit a depth ts rest (t ∷ prefix) x is whole shallow = shallow.0
room_before limit a depth ts rest [] x is whole shallow =
    absurd (begun ((type_laws (suc (length ts)) depth depth 0 (omega arith)).begun ts x rest (omega arith) is) (ap length whole))
  where
    begun : {ts rest : List Token} → Begun type_shape ts rest → length ts ≡ length rest → ⊥
    begun (has_some st less) same = omega arith
    begun (has_none empty is) same = cc

module _ (text : List ℕ) (limit a : ℕ) (Inner Inner' : Rel TypeTree)
    (inside : Walks text limit (suc a) (suc a) Inner Inner' (TypeIn text)) where
  vectors : Walks text limit a a (VectorOf Inner) (VectorOf Inner') (TypeIn text)
  vectors =
      after (one (kinds.Keyword words.Vector) refl) (λ word. after (one (kinds.Sign Less) refl) (λ _. after inside (λ element. after (one (kinds.Sign Greater) refl) (λ _.
      gives (λ _ e _ _. vector refl e)))))

  maps : Walks text limit a a (MapOf Inner) (MapOf Inner') (TypeIn text)
  maps =
      after (one (kinds.Keyword words.Map) refl) (λ word. after (one (kinds.Sign Less) refl) (λ _. after inside (λ key. after (one (kinds.Sign Comma) refl) (λ _.
      after inside (λ value. after (one (kinds.Sign Greater) refl) (λ _. gives (λ _ v _ k _ _. map refl k v)))))))

  layer : Walks text limit a a (Either (VectorOf Inner) (Either (MapOf Inner) (Either UnsignedOf (Either NamedOf BasicOf)))) (Either (VectorOf Inner') (Either (MapOf Inner') (Either UnsignedOf (Either NamedOf BasicOf)))) (TypeIn text)
  layer =
      either vectors (either maps (either
      (after (one (kinds.Keyword words.Unsigned) refl) (λ _. after (means unsigned_of (λ kind x is. unsigned_flat kind x a is)) (λ word. gives (λ _ _. basic refl))))
      (either (after scoped (λ name. gives (λ e. named refl e)))
      (after (means basic_of (λ kind x is. basics_flat kind x a is)) (λ word. gives (λ _. basic refl))))))

pub type_walks : (text : List ℕ) (depth limit a : ℕ) → Walks text limit a a (TypeOf depth) (TypeOf (limit - a)) (TypeIn text)
type_walks text zero limit a = record { walk = λ tokens x rest is. absurd is }
type_walks text (suc depth) limit a = record {
  walk = λ tokens x rest is.
      let h = (layer text limit a (TypeOf depth) (TypeOf (limit - suc a)) (type_walks text depth limit (suc a))).walk tokens x rest is in
      record {
        prefix = h.prefix;
        whole = h.whole;
        open_after = h.open_after;
        bounded = λ shallow.
            let within : a < limit = room_before limit a (suc depth) tokens rest h.prefix x is h.whole shallow in
            let room : suc (limit - suc a) ≡ limit - a = omega arith in
            subst (λ r. TypeOf r tokens x rest) room (h.bounded shallow);
        placed = h.placed;
      };
}

-- where no type is open
pub types : (text : List ℕ) (depth limit : ℕ) → Walks text limit 0 0 (TypeOf depth) (TypeOf limit) (TypeIn text)
types text depth limit =
    let all : limit - 0 ≡ limit = omega arith in
    subst (λ r. Walks text limit 0 0 (TypeOf depth) (TypeOf r) (TypeIn text)) all (type_walks text depth limit 0)

pub typed : (text : List ℕ) (depth limit : ℕ) → Walks text limit 0 0 (Typed depth) (Typed limit) (TypedIn text)
typed text depth limit = after (types text depth limit) (λ ty. after (spanned kinds.Ident refl) (λ name. gives (λ n t. (t, n))))
