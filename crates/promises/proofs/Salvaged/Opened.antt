-- What a file that opens strictly says: its first bytes, its texts, and that its sections lie in it. Assumes nothing.
use Rattle.numbers.{proofs.Prelude.{ℕ, ◌^◌, ◌≤◌, le-leb, length, true, List, [], ◌∷◌, ◌≡◌, refl, sym, ap, ◌∙◌, arith}, specs.Reply.{given}}
use Rattle.header.{proofs.ReadFrom.{read_from, sized, long_of}, specs.{Header.{preamble_of, Texts, texts_of, contents_by, head_by}, declared.header.Head.{Head}}}

pub record Opened (file : List ℕ) (head : Head) : Type 0 where
  pub strict : head.strict ≡ true
  pub preamble : preamble_of file ≡ given head.preamble
  pub texts : Texts
  pub texts_are : texts_of true file head.preamble.count ≡ given texts
  pub contents : contents_by true file ≡ given (record { head = head; bytes = texts.bytes })
  pub in_order : head.sections.metadata ≤ head.sections.«data»
  pub inside : head.sections.«data» ≤ length file

pub opened_from : (file : List ℕ) (head : Head) → head_by true file ≡ given head → Opened file head
opened_from file head e = let o = read_from true file (sym e) in let a = sized true file o.texts.place o.sections in record {
  strict = o.strictly;
  preamble = sym o.preamble;
  texts = o.texts;
  texts_are = sym o.texts_are;
  contents = sym o.contents;
  in_order = omega (arith, a.metadata, a.data_stands);
  inside = omega (arith, a.exact);
}

-- ---- the first seven bytes
pub record Seven (file : List ℕ) : Type 0 where
  pub b0 : ℕ
  pub b1 : ℕ
  pub b2 : ℕ
  pub b3 : ℕ
  pub b4 : ℕ
  pub b5 : ℕ
  pub b6 : ℕ
  pub rest : List ℕ
  pub are : file ≡ b0 ∷ b1 ∷ b2 ∷ b3 ∷ b4 ∷ b5 ∷ b6 ∷ rest

pub seven_of : (file : List ℕ) → 7 ≤ length file → Seven file
seven_of [] h = absurd (omega arith)
seven_of (a ∷ []) h = absurd (omega arith)
seven_of (a ∷ b ∷ []) h = absurd (omega arith)
seven_of (a ∷ b ∷ c ∷ []) h = absurd (omega arith)
seven_of (a ∷ b ∷ c ∷ d ∷ []) h = absurd (omega arith)
seven_of (a ∷ b ∷ c ∷ d ∷ e ∷ []) h = absurd (omega arith)
seven_of (a ∷ b ∷ c ∷ d ∷ e ∷ f ∷ []) h = absurd (omega arith)
seven_of (a ∷ b ∷ c ∷ d ∷ e ∷ f ∷ g ∷ rest) h = record { b0 = a; b1 = b; b2 = c; b3 = d; b4 = e; b5 = f; b6 = g; rest = rest; are = refl }

pub opened_seven : (file : List ℕ) (head : Head) → Opened file head → Seven file
opened_seven file head o = seven_of file (long_of file (sym o.preamble)).seven

pub opened_small : (file : List ℕ) (head : Head) → Opened file head → length file ≤ 2 ^ 30
opened_small file head o = (long_of file (sym o.preamble)).small

-- they alone say type, version, precision and the number of names
preamble_same : (a b c d e f g : ℕ) (rest rest' : List ℕ) → length (a ∷ b ∷ c ∷ d ∷ e ∷ f ∷ g ∷ rest) ≤ 2 ^ 30 → length (a ∷ b ∷ c ∷ d ∷ e ∷ f ∷ g ∷ rest') ≤ 2 ^ 30
    → preamble_of (a ∷ b ∷ c ∷ d ∷ e ∷ f ∷ g ∷ rest') ≡ preamble_of (a ∷ b ∷ c ∷ d ∷ e ∷ f ∷ g ∷ rest)
unfolding preamble_of
preamble_same a b c d e f g rest rest' h k = let file = a ∷ b ∷ c ∷ d ∷ e ∷ f ∷ g ∷ rest in let file' = a ∷ b ∷ c ∷ d ∷ e ∷ f ∷ g ∷ rest' in
    rw (le-leb (length file) (2 ^ 30) h, le-leb (length file') (2 ^ 30) k, le-leb 7 (length file) (omega arith), le-leb 7 (length file') (omega arith)) refl

pub preamble_again : (file : List ℕ) (head : Head) (o : Opened file head) (rest new : List ℕ) → length new ≤ 2 ^ 30
    → new ≡ (opened_seven file head o).b0 ∷ (opened_seven file head o).b1 ∷ (opened_seven file head o).b2 ∷ (opened_seven file head o).b3 ∷ (opened_seven file head
    o).b4 ∷ (opened_seven file head o).b5 ∷ (opened_seven file head o).b6 ∷ rest → preamble_of new ≡ given head.preamble
preamble_again file head o rest new small is = let s = opened_seven file head o in let old = opened_small file head o in
    ap preamble_of is ∙ preamble_same s.b0 s.b1 s.b2 s.b3 s.b4 s.b5 s.b6 s.rest rest (omega (arith, old, ap length s.are))
    (omega (arith, small, ap length is)) ∙ ap preamble_of (sym s.are) ∙ o.preamble
