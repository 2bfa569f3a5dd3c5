-- Pieces that stand in a text derive a tree of which something is told, part by part as the grammar is joined.
use Rattle.std.proofs.Common.{◌≡◌, ◌≤◌, ◌+◌, ◌-◌, ℕ, Option, Some, None, List, [], ◌∷◌, ◌++◌, length, take, drop, refl, sym, ap, ◌∙◌, subst, inl, inr, append_assoc, append-nil, length-append, flat_map, slice_range, drop_at, take_at, arith}
use Rattle.std.proofs.lemmas.Grind.{flat_map-append}
use Rattle.std.specs.List.{AllByRecursion}
use Rattle.idl_parse.specs.Grammar.{SpanOf, Mark}
use Rattle.idl_parse.specs.Rules.{Rel, Gives, ◌⟫◌, One, Means, Either, Maybe, Many, none, more}
use Rattle.idl_lex.specs.Spans.{span}
use Rattle.idl_lex.specs.declared.kind.Kind.{Kind}
use Rattle.idl_lex.specs.declared.sign.Sign.TheVariants as signs
use Rattle.idl_lex.specs.declared.span.Span.{Span}
use Rattle.idl_lex.specs.declared.token.Token.{Token}
use Rattle.canonical_tree.specs.Pieces.{Piece, token, blank, bytes_of, spell, tokens_at, mark, line_end}
use Rattle.canonical_tree.specs.Says.{Pairwise}

-- ---- places in the text

-- the pieces stand in the text from the offset on
pub record Placed (text : List ℕ) (at : ℕ) (pieces : List Piece) : Type 0 where
  pub before : List ℕ
  pub after : List ℕ
  pub whole : text ≡ before ++ (spell pieces ++ after)
  pub offset : length before ≡ at

-- a word stands at the span
pub record WordAt (text word : List ℕ) (span : Span) : Type 0 where
  pub long : span.end ≡ span.start + length word
  pub within : span.end ≤ length text
  pub is : slice_range text span.start span.end ≡ word

placed_left : (text : List ℕ) (at : ℕ) (ps qs : List Piece) → Placed text at (ps ++ qs) → Placed text at ps
placed_left text at ps qs p = record {
  before = p.before;
  after = spell qs ++ p.after;
  whole = p.whole ∙ ap (λ s. p.before ++ (s ++ p.after)) (flat_map-append bytes_of ps qs) ∙ ap (λ s. p.before ++ s) (append_assoc (spell ps) (spell qs) p.after);
  offset = p.offset;
}

placed_right : (text : List ℕ) (at : ℕ) (ps qs : List Piece) → Placed text at (ps ++ qs) → Placed text (at + length (spell ps)) qs
placed_right text at ps qs p = record {
  before = p.before ++ spell ps;
  after = p.after;
  whole =
      p.whole ∙ ap (λ s. p.before ++ (s ++ p.after)) (flat_map-append bytes_of ps qs)
      ∙ ap (λ s. p.before ++ s) (append_assoc (spell ps) (spell qs) p.after) ∙ sym (append_assoc p.before (spell ps) (spell qs ++ p.after));
  offset = length-append p.before (spell ps) ∙ ap (λ n. n + length (spell ps)) p.offset;
}

-- the pieces after the first
placed_next : (text : List ℕ) (at : ℕ) (first : Piece) (ps : List Piece) → Placed text at (first ∷ ps) → Placed text (at + length (bytes_of first)) ps
placed_next text at first ps p = record {
  before = p.before ++ bytes_of first;
  after = p.after;
  whole = p.whole ∙ ap (λ s. p.before ++ s) (append_assoc (bytes_of first) (spell ps) p.after) ∙ sym (append_assoc p.before (bytes_of first) (spell ps ++ p.after));
  offset = length-append p.before (bytes_of first) ∙ ap (λ n. n + length (bytes_of first)) p.offset;
}

range_is : (text before word after : List ℕ) (at : ℕ) → text ≡ before ++ (word ++ after) → length before ≡ at → slice_range text at (at + length word) ≡ word
range_is text before word after at whole offset =
    ap (λ t. take (at + length word - at) (drop at t)) whole
    ∙ ap (λ t. take (at + length word - at) t) (drop_at before (word ++ after) at offset)
    ∙ take_at word after (at + length word - at) (omega arith)

range_within : (text before word after : List ℕ) (at : ℕ) → text ≡ before ++ (word ++ after) → length before ≡ at → at + length word ≤ length text
range_within text before word after at whole offset = omega (arith, ap length whole, length-append before (word ++ after), length-append word after)

word_first : (text word : List ℕ) (kind : Kind) (at : ℕ) (ps : List Piece) → Placed text at (token kind word ∷ ps) → WordAt text word (record { start = at; end = at + length word })
word_first text word kind at ps p =
    let whole = p.whole ∙ ap (λ s. p.before ++ s) (append_assoc word (spell ps) p.after) in
    record {
      long = refl;
      within = range_within text p.before word (spell ps ++ p.after) at whole p.offset;
      is = range_is text p.before word (spell ps ++ p.after) at whole p.offset;
    }

-- the tokens of pieces after pieces
tokens_append : (at : ℕ) (ps qs : List Piece) → tokens_at at (ps ++ qs) ≡ tokens_at at ps ++ tokens_at (at + length (spell ps)) qs
tokens_append at [] qs = ap (λ n. tokens_at n qs) (omega arith)
tokens_append at (token kind word ∷ ps) qs =
    ap (λ ts. record { kind = kind; start = at; end = at + length word } ∷ ts)
    (tokens_append (at + length word) ps qs ∙ ap (λ n. tokens_at (at + length word) ps ++ tokens_at n qs) (omega (arith, length-append word (spell ps))))
tokens_append at (blank bytes ∷ ps) qs =
    tokens_append (at + length bytes) ps qs ∙ ap (λ n. tokens_at (at + length bytes) ps ++ tokens_at n qs) (omega (arith, length-append bytes (spell ps)))

-- ---- derivations

-- the tokens, and whatever comes after them, derive a tree
pub record Derived {A : Type 0} (P : Rel A) (Tells : A → Type 0) (tokens : List Token) : Type 0 where
  pub tree : A
  pub derived : (later : List Token) → P (tokens ++ later) tree later
  pub tells : Tells tree

-- the pieces do, wherever they stand in the text
pub record Derives {A : Type 0} (text : List ℕ) (P : Rel A) (Tells : A → Type 0) (pieces : List Piece) : Type 0 where
  pub derive : (at : ℕ) → Placed text at pieces → Derived P Tells (tokens_at at pieces)

-- what a relation derives, with a semicolon after it
abbrev pub Ended : {A : Type 0} → Rel A → Rel A
Ended P = P ⟫ λ x. Mark signs.Semicolon ⟫ λ _. Gives x

module _ {text : List ℕ} where
  pub done : {A : Type 0} {x : A} {E : A → Type 0} → E x → Derives text (Gives x) E []
  done {x = x} e = record { derive = λ at placed. record { tree = x; derived = λ later. (refl, refl); tells = e } }

  -- blanks are no tokens
  pub past : {A : Type 0} {P : Rel A} {E : A → Type 0} {bytes : List ℕ} {ps : List Piece} → Derives text P E ps → Derives text P E (blank bytes ∷ ps)
  past {bytes = bytes} {ps = ps} r = record { derive = λ at placed. r.derive (at + length bytes) (placed_next text at (blank bytes) ps placed) }

  pub one : {B : Type 0} {kind : Kind} {word : List ℕ} {Q : Token → Rel B} {F : B → Type 0} {ps : List Piece} → ((t : Token) → t.kind ≡ kind → WordAt text word (span t) → Derives text (Q t) F ps)
      → Derives text (One kind ⟫ Q) F (token kind word ∷ ps)
  one {kind = kind} {word = word} {ps = ps} r = record {
    derive = λ at placed.
        let t : Token = record { kind = kind; start = at; end = at + length word } in
        let later = (r t refl (word_first text word kind at ps placed)).derive (at + length word) (placed_next text at (token kind word) ps placed) in
        record {
          tree = later.tree;
          derived = λ rest. (t, tokens_at (at + length word) ps ++ rest, (refl, refl), later.derived rest);
          tells = later.tells;
        };
  }

  pub means : {A B : Type 0} {kind : Kind} {word : List ℕ} {Q : Token × A → Rel B} {F : B → Type 0} {ps : List Piece} (meaning : Kind → Option A) (x : A) → meaning kind ≡ Some x
      → ((t : Token) → WordAt text word (span t) → Derives text (Q (t, x)) F ps) → Derives text (Means meaning ⟫ Q) F (token kind word ∷ ps)
  means {kind = kind} {word = word} {ps = ps} meaning x is r = record {
    derive = λ at placed.
        let t : Token = record { kind = kind; start = at; end = at + length word } in
        let later = (r t (word_first text word kind at ps placed)).derive (at + length word) (placed_next text at (token kind word) ps placed) in
        record {
          tree = later.tree;
          derived = λ rest. ((t, x), tokens_at (at + length word) ps ++ rest, (is, refl), later.derived rest);
          tells = later.tells;
        };
  }

  -- the span of a token
  pub spanned : {B : Type 0} {kind : Kind} {word : List ℕ} {Q : Span → Rel B} {F : B → Type 0} {ps : List Piece} → ((at : Span) → WordAt text word at → Derives text (Q at) F ps)
      → Derives text (SpanOf kind ⟫ Q) F (token kind word ∷ ps)
  spanned {kind = kind} {word = word} {ps = ps} r = record {
    derive = λ at placed.
        let t : Token = record { kind = kind; start = at; end = at + length word } in
        let later = (r (span t) (word_first text word kind at ps placed)).derive (at + length word) (placed_next text at (token kind word) ps placed) in
        record {
          tree = later.tree;
          derived = λ rest. (span t, tokens_at (at + length word) ps ++ rest, (t, tokens_at (at + length word) ps ++ rest, (refl, refl), (refl, refl)), later.derived rest);
          tells = later.tells;
        };
  }

  -- one part after the other
  pub part : {A B : Type 0} {P : Rel A} {E : A → Type 0} {Q : A → Rel B} {F : B → Type 0} {ps qs : List Piece} → Derives text P E ps → ((x : A) → E x → Derives text (Q x) F qs)
      → Derives text (P ⟫ Q) F (ps ++ qs)
  part {P = P} {ps = ps} {qs = qs} r s = record {
    derive = λ at placed.
        let first = r.derive at (placed_left text at ps qs placed) in
        let second = (s first.tree first.tells).derive (at + length (spell ps)) (placed_right text at ps qs placed) in
        record {
          tree = second.tree;
          derived = λ rest.
              let mid = tokens_at (at + length (spell ps)) qs ++ rest in
              let split = ap (λ ts. ts ++ rest) (tokens_append at ps qs) ∙ append_assoc (tokens_at at ps) (tokens_at (at + length (spell ps)) qs) rest in
              (first.tree, mid, subst (λ ts. P ts first.tree mid) (sym split) (first.derived mid), second.derived rest);
          tells = second.tells;
        };
  }

  -- a last part, after which no piece comes
  pub last : {A B : Type 0} {P : Rel A} {E : A → Type 0} {Q : A → Rel B} {F : B → Type 0} {ps : List Piece} → Derives text P E ps → ((x : A) → E x → Derives text (Q x) F [])
      → Derives text (P ⟫ Q) F ps
  last {P = P} {Q = Q} {F = F} {ps = ps} r s = subst (Derives text (P ⟫ Q) F) (append-nil ps) (part r s)

  -- a part, and the semicolon after it
  pub ended : {A : Type 0} {P : Rel A} {E : A → Type 0} {ps : List Piece} → Derives text P E ps → Derives text (Ended P) E (ps ++ (mark signs.Semicolon ∷ line_end ∷ []))
  ended r = part r (λ x e. one (λ _ _ _. past (done e)))

  pub given : {A B : Type 0} {x : A} {Q : A → Rel B} {F : B → Type 0} {ps : List Piece} → Derives text (Q x) F ps → Derives text (Gives x ⟫ Q) F ps
  given {x = x} {ps = ps} r = record {
    derive = λ at placed.
        let later = r.derive at placed in
        record { tree = later.tree; derived = λ rest. (x, tokens_at at ps ++ rest, (refl, refl), later.derived rest); tells = later.tells };
  }

  -- three in a row
  pub regroup : {A B C : Type 0} {P : Rel A} {Q : A → Rel B} {R : B → Rel C} {F : C → Type 0} {ps : List Piece} → Derives text (P ⟫ λ x. Q x ⟫ R) F ps → Derives text ((P ⟫ Q) ⟫ R) F ps
  regroup r = record {
    derive = λ at placed.
        let whole = r.derive at placed in
        record {
          tree = whole.tree;
          derived = λ rest. let (x, mid, p, later) = whole.derived rest in let (y, next, q, s) = later in (y, next, (x, mid, p, q), s);
          tells = whole.tells;
        };
  }

  -- ---- choices

  pub in_left : {A : Type 0} {P Q : Rel A} {E : A → Type 0} {ps : List Piece} → Derives text P E ps → Derives text (Either P Q) E ps
  in_left r = record { derive = λ at placed. let h = r.derive at placed in record { tree = h.tree; derived = λ rest. inl (h.derived rest); tells = h.tells } }

  pub in_right : {A : Type 0} {P Q : Rel A} {E : A → Type 0} {ps : List Piece} → Derives text Q E ps → Derives text (Either P Q) E ps
  in_right r = record { derive = λ at placed. let h = r.derive at placed in record { tree = h.tree; derived = λ rest. inr (h.derived rest); tells = h.tells } }

  pub absent : {A B : Type 0} {P : Rel A} {Q : Option A → Rel B} {F : B → Type 0} {ps : List Piece} → Derives text (Q None) F ps → Derives text (Maybe P ⟫ Q) F ps
  absent {ps = ps} r = record {
    derive = λ at placed.
        let h = r.derive at placed in
        record { tree = h.tree; derived = λ rest. (None, tokens_at at ps ++ rest, inr (refl, refl), h.derived rest); tells = h.tells };
  }

  pub present : {A B : Type 0} {P : Rel A} {Q : Option A → Rel B} {F : B → Type 0} {ps : List Piece} → Derives text (P ⟫ λ x. Q (Some x)) F ps → Derives text (Maybe P ⟫ Q) F ps
  present r = record {
    derive = λ at placed.
        let h = r.derive at placed in
        record { tree = h.tree; derived = λ rest. let (x, mid, p, q) = h.derived rest in (Some x, mid, inl (x, mid, p, (refl, refl)), q); tells = h.tells };
  }

  pub saying : {A : Type 0} {P : Rel A} {E F : A → Type 0} {ps : List Piece} → ((x : A) → E x → F x) → Derives text P E ps → Derives text P F ps
  saying says r = record { derive = λ at placed. let h = r.derive at placed in record { tree = h.tree; derived = h.derived; tells = says h.tree h.tells } }

  -- ---- repetitions

  pub no_more : {A : Type 0} {P : Rel A} {E : List A → Type 0} → E [] → Derives text (Many P) E []
  no_more e = record { derive = λ at placed. record { tree = []; derived = λ rest. none; tells = e } }

  pub one_more : {A : Type 0} {P : Rel A} {E : A → Type 0} {F : List A → Type 0} {ps qs : List Piece} → Derives text P E ps → ((x : A) → E x → Derives text (Many P) (λ xs. F (x ∷ xs)) qs)
      → Derives text (Many P) F (ps ++ qs)
  one_more {P = P} {ps = ps} {qs = qs} r s = record {
    derive = λ at placed.
        let first = r.derive at (placed_left text at ps qs placed) in
        let later = (s first.tree first.tells).derive (at + length (spell ps)) (placed_right text at ps qs placed) in
        record {
          tree = first.tree ∷ later.tree;
          derived = λ rest.
              let mid = tokens_at (at + length (spell ps)) qs ++ rest in
              let split = ap (λ ts. ts ++ rest) (tokens_append at ps qs) ∙ append_assoc (tokens_at at ps) (tokens_at (at + length (spell ps)) qs) rest in
              more (subst (λ ts. P ts first.tree mid) (sym split) (first.derived mid)) (later.derived rest);
          tells = later.tells;
        };
  }

  -- none, or one more, and what follows
  pub none_before : {A B : Type 0} {P : Rel A} {Q : List A → Rel B} {F : B → Type 0} {ps : List Piece} → Derives text (Q []) F ps → Derives text (Many P ⟫ Q) F ps
  none_before {ps = ps} r = record {
    derive = λ at placed.
        let h = r.derive at placed in
        record { tree = h.tree; derived = λ rest. ([], tokens_at at ps ++ rest, none, h.derived rest); tells = h.tells };
  }

  pub one_before : {A B : Type 0} {P : Rel A} {E : A → Type 0} {Q : List A → Rel B} {F : B → Type 0} {ps qs : List Piece} → Derives text P E ps
      → ((x : A) → E x → Derives text (Many P ⟫ λ xs. Q (x ∷ xs)) F qs) → Derives text (Many P ⟫ Q) F (ps ++ qs)
  one_before {P = P} {ps = ps} {qs = qs} r s = record {
    derive = λ at placed.
        let whole = (part r s).derive at placed in
        record {
          tree = whole.tree;
          derived = λ rest. let (x, mid, p, later) = whole.derived rest in let (xs, next, ps, q) = later in (x ∷ xs, next, more p ps, q);
          tells = whole.tells;
        };
  }

  -- the pieces of items, each of which fits
  pub many : {A T : Type 0} {P : Rel A} (Fits : T → Type 0) (Goes : T → A → Type 0) (pieces_of : T → List Piece) → ((item : T) → Fits item → Derives text P (Goes item) (pieces_of item))
      → (items : List T) → AllByRecursion Fits items → Derives text (Many P) (Pairwise Goes items) (flat_map pieces_of items)
  many Fits Goes pieces_of derives [] all = no_more tt
  many Fits Goes pieces_of derives (item ∷ items) all =
      one_more (derives item all.0) (λ x e. saying (λ xs es. (e, es)) (many Fits Goes pieces_of derives items all.1))
