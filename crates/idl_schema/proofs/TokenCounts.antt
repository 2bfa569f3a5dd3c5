-- The declarations of a file are no more than the tokens of its text, and these no more than its bytes.
use Rattle.std.proofs.Common.{◌<◌, ◌≤◌, ◌+◌, ℕ, zero, suc, Option, List, length, ap, inl, inr, arith}
use Rattle.idl_parse.specs.Files.{IsFileText}
use Rattle.idl_parse.specs.Grammar.{nesting_limit, SpanOf, Scoped, Array, LiteralOf, VectorOf, MapOf, TypeOf, Typed, Block, Listed, Member, Struct, Item, Items, Enum, Const, Key, Param, Ret, Params, Func, Interface, Decl, EntryOf}
use Rattle.idl_parse.specs.Rules.{Rel, Gives, ◌⟫◌, One, Means, Either, Maybe, Many, none, more}
use Rattle.idl_lex.specs.Tokens.{Tokens, AreLexemes}
use Rattle.idl_lex.specs.Tokens.AreLexemes.{none as no_lexeme, then_trivia, then_token}
use Rattle.idl_lex.specs.declared.kind.Kind.{Kind}
use Rattle.idl_lex.specs.declared.token.Token.{Token}
use Rattle.idl_parse.specs.declared.tree.module.Entry.{Entry}
use Rattle.idl_parse.specs.declared.tree.type_tree.TypeTree.{TypeTree}
use Rattle.idl_lex.proofs.Lexing.Lexemes.LexemeLaws.{lexeme_shorter}
use Rattle.idl_schema.specs.Faultless.{decl_count, entry_decls}

-- ---- tokens of a text

lexemes_few : {size : ℕ} {bytes rest : List ℕ} {tokens : List Token} → AreLexemes size bytes tokens rest → length tokens + length rest ≤ length bytes
lexemes_few no_lexeme = omega arith
lexemes_few (then_trivia first others) = omega (arith, lexeme_shorter first, lexemes_few others)
lexemes_few (then_token first others) = omega (arith, lexeme_shorter first, lexemes_few others)

tokens_few : (text : List ℕ) (tokens : List Token) → Tokens text tokens → length tokens ≤ length text
tokens_few text tokens are = omega (arith, lexemes_few are)

-- ---- what is left is no more than what there was

record Shrinks {A : Type 0} (P : Rel A) : Type 0 where
  within : (tokens : List Token) (x : A) (rest : List Token) → P tokens x rest → length rest ≤ length tokens

one : {kind : Kind} → Shrinks (One kind)
one = record { within = λ tokens t rest (is, whole). omega (arith, ap length whole) }

means : {A : Type 0} (meaning : Kind → Option A) → Shrinks (Means meaning)
means meaning = record { within = λ tokens t rest (is, whole). omega (arith, ap length whole) }

gives : {A : Type 0} {x : A} → Shrinks (Gives x)
gives = record { within = λ tokens y rest (same, is). omega (arith, ap length is) }

after : {A B : Type 0} {P : Rel A} {Q : A → Rel B} → Shrinks P → ((x : A) → Shrinks (Q x)) → Shrinks (P ⟫ Q)
after r s = record { within = λ tokens y rest (x, mid, p, q). omega (arith, r.within tokens x mid p, (s x).within mid y rest q) }

either : {A : Type 0} {P Q : Rel A} → Shrinks P → Shrinks Q → Shrinks (Either P Q)
either {A = A} {P = P} {Q = Q} r s = record { within = by_side }
  where
    by_side : (tokens : List Token) (x : A) (rest : List Token) → Either P Q tokens x rest → length rest ≤ length tokens
    by_side tokens x rest (inl p) = r.within tokens x rest p
    by_side tokens x rest (inr q) = s.within tokens x rest q

maybe : {A : Type 0} {P : Rel A} → Shrinks P → Shrinks (Maybe P)
maybe r = either (after r (λ x. gives)) gives

many : {A : Type 0} {P : Rel A} → Shrinks P → Shrinks (Many P)
many {A = A} {P = P} r = record { within = λ tokens xs rest all. each all }
  where
    each : {tokens rest : List Token} {xs : List A} → Many P tokens xs rest → length rest ≤ length tokens
    each none = omega arith
    each (more {tokens = tokens} {mid = mid} {x = x} p ps) = omega (arith, r.within tokens x mid p, each ps)

block : {A : Type 0} {P : Rel A} → Shrinks P → Shrinks (Block P)
block r = after (many (after r (λ x. after one (λ _. gives)))) (λ xs. after one (λ _. gives))

listed : {A : Type 0} {P : Rel A} → Shrinks P → Shrinks (Listed P)
listed r = after r (λ x. after (many (after one (λ _. r))) (λ xs. gives))

span_of : {kind : Kind} → Shrinks (SpanOf kind)
span_of = after one (λ t. gives)

-- ---- each production

scoped : Shrinks Scoped
scoped = after span_of (λ first. after (maybe (after one (λ _. span_of))) (λ second. gives))

array : Shrinks Array
array = after one (λ bracket. after span_of (λ number. after one (λ _. gives)))

literal : Shrinks LiteralOf
literal = either (after scoped (λ name. gives)) (after (means _) (λ word. gives))

vectors : {Inner : Rel TypeTree} → Shrinks Inner → Shrinks (VectorOf Inner)
vectors inner = after one (λ word. after one (λ _. after inner (λ element. after one (λ _. gives))))

maps : {Inner : Rel TypeTree} → Shrinks Inner → Shrinks (MapOf Inner)
maps inner = after one (λ word. after one (λ _. after inner (λ key. after one (λ _. after inner (λ value. after one (λ _. gives))))))

types : (room : ℕ) → Shrinks (TypeOf room)
types zero = record { within = λ tokens x rest is. absurd is }
types (suc room) =
    either (vectors (types room)) (either (maps (types room))
    (either (after one (λ word. after (means _) (λ basic. gives))) (either (after scoped (λ name. gives)) (after (means _) (λ basic. gives)))))

typed : (room : ℕ) → Shrinks (Typed room)
typed room = after (types room) (λ ty. after span_of (λ name. gives))

module _ (room : ℕ) where
  member : Shrinks (Member room)
  member =
      after span_of (λ tag. after (means _) (λ requirement. after (typed room) (λ typed. after (maybe array) (λ array.
      after (maybe (after one (λ _. literal))) (λ default. gives)))))

  struct : Shrinks (Struct room)
  struct = after one (λ _. after span_of (λ name. after one (λ _. after (block member) (λ members. gives))))

  item : Shrinks Item
  item = after span_of (λ name. after (maybe (after one (λ _. span_of))) (λ number. gives))

  items : Shrinks Items
  items = either (after (listed item) (λ items. after (maybe one) (λ _. gives))) gives

  enum : Shrinks Enum
  enum = after one (λ _. after span_of (λ name. after one (λ _. after items (λ items. after one (λ _. gives)))))

  const : Shrinks (Const room)
  const = after one (λ _. after (typed room) (λ typed. after one (λ _. after literal (λ value. gives))))

  key : Shrinks Key
  key = after one (λ _. after one (λ _. after span_of (λ name. after (many (after one (λ _. span_of))) (λ members. after one (λ _. gives)))))

  param : Shrinks (Param room)
  param = after (maybe one) (λ routekey. after (maybe one) (λ out. after (typed room) (λ typed. gives)))

  ret : Shrinks (Ret room)
  ret = either (after one (λ _. gives)) (after (types room) (λ ty. gives))

  params : Shrinks (Params room)
  params = either (listed param) gives

  func : Shrinks (Func room)
  func = after ret (λ ret. after span_of (λ name. after one (λ _. after params (λ params. after one (λ _. gives)))))

  interface : Shrinks (Interface room)
  interface = after one (λ _. after span_of (λ name. after one (λ _. after (block func) (λ funcs. gives))))

  decl : Shrinks (Decl room)
  decl = either struct (either enum (either const (either key interface)))

-- ---- each declaration ends in a token

many_few : {A : Type 0} {P : Rel A} {tokens rest : List Token} {xs : List A} → ((tokens : List Token) (x : A) (rest : List Token) → P tokens x rest → length rest < length tokens)
    → Many P tokens xs rest → length xs + length rest ≤ length tokens
many_few some none = omega arith
many_few some (more {tokens = tokens} {mid = mid} {x = x} p ps) = omega (arith, some tokens x mid p, many_few some ps)

block_few : {A : Type 0} {P : Rel A} → Shrinks P → (tokens : List Token) (xs : List A) (rest : List Token) → Block P tokens xs rest → length xs + length rest ≤ length tokens
block_few r tokens xs rest (ys, mid, all, (brace, next, close, (same, is))) =
    omega (
      arith,
      ap length same,
      ap length is,
      ap length close.1,
      many_few (λ tokens x rest (y, mid, p, (mark, next, semicolon, (same, is))). omega (arith, r.within tokens y mid p, ap length semicolon.1, ap length is)) all,
    )

entry_few : (room : ℕ) (tokens : List Token) (e : Entry) (rest : List Token) → EntryOf room tokens e rest → entry_decls e + length rest ≤ length tokens
entry_few room tokens e rest (inl (include, mid, first, (text, next, second, (same, is)))) =
    let shorter = span_of.within mid text next second in
    omega (arith, ap entry_decls same, ap length first.1, shorter, ap length is)
entry_few room tokens e rest (inr (word, a, first, (name, b, second, (brace, c, third, (decls, d, all, (semicolon, f, fourth, (same, is))))))) =
    let shorter = span_of.within a name b second in
    let inside = block_few (decl room) c decls d all in
    omega (arith, ap entry_decls same, ap length first.1, shorter, ap length third.1, inside, ap length fourth.1, ap length is)

entries_few : (room : ℕ) {tokens rest : List Token} {entries : List Entry} → Many (EntryOf room) tokens entries rest → decl_count entries + length rest ≤ length tokens
entries_few room none = omega arith
entries_few room (more {tokens = tokens} {mid = mid} {x = e} p ps) = omega (arith, entry_few room tokens e mid p, entries_few room ps)

-- the declarations of a file are no more than its bytes
pub few_decls : (text : List ℕ) (entries : List Entry) → IsFileText text entries → decl_count entries ≤ length text
few_decls text entries file = omega (arith, tokens_few text file.tokens file.are, entries_few nesting_limit file.derived)
