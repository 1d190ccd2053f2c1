-- A border that was written at the front of the output, or was not, and the data with it. Assumes nothing.
use Rattle.numbers.proofs.Prelude.{ℕ, ◌+◌, ◌-◌, ◌≤◌, ◌<◌, eq-eqb, ne_eqb, le-leb, leb-true, lt-leb, leb-false, eqb, leb, ℤ, length, take, length-append, take-append_seam, Bool, true, false, List, []}
use Rattle.numbers.{proofs.{Prelude.{◌∷◌, ◌++◌, flat_map, ◌≡◌, refl, sym, ap, subst, ◌∙◌, arith}, Refusals.{Listed}, Replies.{NumberedReply, refuses}}, specs.Answer.{if◌then◌else◌}}
use Rattle.numbers.specs.{Lists.{zeros, padded}, Reply.{Reply, given, refused, refusal, plain, ◌>>◌}, Spelling.{varint_of}}
use Rattle.writer.{proofs.NumberedWriter.{border_numbers, checks_numbered, border_numbered}, specs.{Moves.{plain_move_bytes, moves_of}, Pieces.{first_pieces, pieces_of}}}
use Rattle.writer.specs.{Writer.{checks, plain_border, border_of, Replied, replied, fitted}, declared.write.Piece.{Piece}}
use Rattle.numbers.specs.declared.refusal.Refusal.{Refusal}
use Rattle.builder.specs.Borders.{appended, unwritten_as, Draws, Lends, good_if}

-- ---- a border is never refused with 24: that is the output's
abbrev Known : {A : Type 0} → Reply A → Type 0
Known reply = NumberedReply (Listed border_numbers) reply

pub border_known : (version : ℕ) (lats lons : List ℤ) (pieces : List Piece) (earlier : List ℕ) → Known (border_of version lats lons pieces earlier)
border_known = border_numbered

not_listed : (n : ℕ) → Listed border_numbers n → n ≡ 24 → ⊥
not_listed n h e = let l : Listed border_numbers 24 = rw e at h in let z : ◌≡◌ {A = ℕ} 0 1 = cc in omega arith

-- ---- what was written
pub record Got (n : ℕ) (border : Reply (List ℕ)) (size : ℕ) (out : List ℕ) : Type 0 where
  pub bytes : List ℕ
  pub is : border ≡ given bytes
  pub size_is : size ≡ length bytes
  pub fit : length bytes ≤ n
  pub front : out ≡ padded n bytes

pub got : (n : ℕ) (border : Reply (List ℕ)) (size : ℕ) (out : List ℕ) → replied (given size) out ≡ fitted n border → Got n border size out
unfolding fitted
got n (given bytes) size out e = go (leb (length bytes) n) refl e where
  go : (t : Bool) → leb (length bytes) n ≡ t → replied (given size) out ≡ (if t then record { reply = given (length bytes); out = padded n bytes } else
      record { reply = refused (plain 24); out = zeros n }) → Got n (given bytes) size out
  go true t e = let r : given size ≡ given (length bytes) = ap (λ (x : Replied). x.reply) e in
      record { bytes = bytes; is = refl; size_is = cc; fit = leb-true (length bytes) n t; front = ap (λ (x : Replied). x.out) e }
  go false t e = let r : ◌≡◌ {A = Reply ℕ} (given size) (refused (plain 24)) = ap (λ (x : Replied). x.reply) e in let z : ◌≡◌ {A = ℕ} 0 1 = cc in
      absurd (omega arith)
got n (refused why) size out e = let r : ◌≡◌ {A = Reply ℕ} (given size) (refused why) = ap (λ (x : Replied). x.reply) e in let z : ◌≡◌ {A = ℕ} 0 1 = cc in
    absurd (omega arith)

-- ---- the ways out
module _ (n room : ℕ) (sofar out : List ℕ) (cut : Bool) (pieces : ℕ) (border : Reply (List ℕ)) (size : ℕ) (g : Got n border size out) where
  pub cut_off : cut ≡ true → (r : Reply ℕ) → r ≡ refused (refusal 23 0 pieces) → Draws (appended room sofar cut pieces border) sofar out r
  unfolding Draws appended
  cut_off c r e = rw (e, g.is, c) refl

  pub too_long : cut ≡ false → room < length sofar + size → (r : Reply ℕ) → r ≡ refused (plain 28) → Draws (appended room sofar cut pieces border) sofar out r
  unfolding Draws appended
  too_long c h r e =
      let l : leb (length (sofar ++ g.bytes)) room ≡ false = lt-leb (length (sofar ++ g.bytes)) room (omega (arith, length-append sofar g.bytes, g.size_is)) in
      rw (e, g.is, c, l) refl

  pub draws : cut ≡ false → length sofar + size ≤ room → Draws (appended room sofar cut pieces border) sofar out (given size)
  unfolding Draws appended
  draws c h =
      let l : leb (length (sofar ++ g.bytes)) room ≡ true = le-leb (length (sofar ++ g.bytes)) room (omega (arith, length-append sofar g.bytes, g.size_is)) in
      let t : take size out ≡ g.bytes = rw (g.size_is, g.front) (take-append_seam g.bytes (zeros (n - length g.bytes))) in
      let long : length out ≡ length g.bytes + length (zeros (n - length g.bytes)) = ap length g.front ∙ length-append g.bytes (zeros (n - length g.bytes)) in
      (rw (g.is, c, l) (ap (λ (bs : List ℕ). given (sofar ++ bs)) (sym t)), omega (arith, g.size_is, long))

pub turned_away : (n room : ℕ) (sofar out : List ℕ) (cut : Bool) (pieces : ℕ) (border : Reply (List ℕ)) (why : Refusal) → Known border → Lends room sofar border n
    → replied (refused why) out ≡ fitted n border → (r : Reply ℕ) → r ≡ refused (unwritten_as why cut pieces) → Draws (appended room sofar cut pieces border) sofar out r
unfolding fitted Draws appended
turned_away n room sofar out cut pieces (refused said) why (refuses listed) h e r er =
    let w : ◌≡◌ {A = Reply ℕ} (refused why) (refused said) = ap (λ (x : Replied). x.reply) e in
    let same : said ≡ why = cc in let ne : eqb why.number 24 ≡ false = ne_eqb why.number 24 (not_listed why.number (rw same at listed)) in
    rw (er, ne) (ap (λ y. refused y) same)
turned_away n room sofar out cut pieces (given bytes) why k h e r er = go (leb (length bytes) n) refl e where
  away : n < length bytes → why.number ≡ 24 → (c : Bool) → r ≡ refused (unwritten_as why c pieces) → Draws (appended room sofar c pieces (given bytes)) sofar out r
  away long is true er = rw (er, eq-eqb why.number 24 is) refl
  away long is false er = let l : leb (length (sofar ++ bytes)) room ≡ false = lt-leb (length (sofar ++ bytes)) room (h bytes refl long) in
      rw (er, eq-eqb why.number 24 is, l) refl

  go : (t : Bool) → leb (length bytes) n ≡ t → replied (refused why) out ≡ (if t then record { reply = given (length bytes); out = padded n bytes }
      else record { reply = refused (plain 24); out = zeros n }) → Draws (appended room sofar cut pieces (given bytes)) sofar out r
  go true t e = let w : ◌≡◌ {A = Reply ℕ} (refused why) (given (length bytes)) = ap (λ (x : Replied). x.reply) e in
      let z : ◌≡◌ {A = ℕ} 0 1 = cc in absurd (omega arith)
  go false t e = let w : ◌≡◌ {A = Reply ℕ} (refused why) (refused (plain 24)) = ap (λ (x : Replied). x.reply) e in
      let same : why ≡ plain 24 = cc in away (leb-false (length bytes) n t) (ap (λ y. y.number) same) cut er

-- ---- by the writer's reply
module _ (n : ℕ) (border : Reply (List ℕ)) (out : List ℕ) (w : Reply ℕ) (e : replied w out ≡ fitted n border) where
  pub got_of : (size : ℕ) → w ≡ given size → Got n border size out
  got_of size is = got n border size out (subst (λ (x : Reply ℕ). replied x out ≡ fitted n border) is e)

  pub away_of : (room : ℕ) (sofar : List ℕ) (cut : Bool) (pieces : ℕ) (why : Refusal) → w ≡ refused why → Known border → Lends room sofar border n
      → (r : Reply ℕ) → r ≡ refused (unwritten_as why cut pieces) → Draws (appended room sofar cut pieces border) sofar out r
  away_of room sofar cut pieces why is k h =
      turned_away n room sofar out cut pieces border why k h (subst (λ (x : Reply ℕ). replied x out ≡ fitted n border) is e)

-- ---- the checks of a border alone: it is written into no room, and a good one has at least a byte
module _ (out bytes : List ℕ) (some : 0 < length bytes) where
  never_wrote : (size : ℕ) (c : Reply (Unit {0})) → replied (given size) out ≡ fitted 0 (c >> given bytes) → ⊥
  unfolding fitted
  never_wrote size (given tt) e =
      let f : replied (given size) out ≡ record { reply = refused (plain 24); out = zeros 0 } = rw (lt-leb (length bytes) 0 some) at e in
      let r : ◌≡◌ {A = Reply ℕ} (given size) (refused (plain 24)) = ap (λ (x : Replied). x.reply) f in let z : ◌≡◌ {A = ℕ} 0 1 = cc in omega arith
  never_wrote size (refused why) e = let r : ◌≡◌ {A = Reply ℕ} (given size) (refused why) = ap (λ (x : Replied). x.reply) e in let z : ◌≡◌ {A = ℕ} 0 1 = cc in
      omega arith

  refused_so : (why : Refusal) (c : Reply (Unit {0})) → Known c → replied (refused why) out ≡ fitted 0 (c >> given bytes) → good_if why ≡ c
  unfolding fitted
  refused_so why (given tt) k e =
      let f : replied (refused why) out ≡ record { reply = refused (plain 24); out = zeros 0 } = rw (lt-leb (length bytes) 0 some) at e in
      let r : ◌≡◌ {A = Reply ℕ} (refused why) (refused (plain 24)) = ap (λ (x : Replied). x.reply) f in
      let same : why ≡ plain 24 = cc in rw (eq-eqb why.number 24 (ap (λ y. y.number) same)) refl
  refused_so why (refused said) (refuses listed) e =
      let r : ◌≡◌ {A = Reply ℕ} (refused why) (refused said) = ap (λ (x : Replied). x.reply) e in
      let same : said ≡ why = cc in rw (ne_eqb why.number 24 (not_listed why.number (rw same at listed))) (ap (λ y. refused y) (sym same))

module _ (lats lons : List ℤ) (out : List ℕ) (w : Reply ℕ) (e : replied w out ≡ fitted 0 (border_of 0 lats lons (pieces_of []) [])) where
  abbrev whole : List ℕ
  whole = varint_of (length (moves_of lats lons)) ++ (flat_map plain_move_bytes (moves_of lats lons) ++ (2 ∷ 2 ∷ []))

  two_bytes : 0 < length whole
  two_bytes =
      omega (
        arith,
        length-append (varint_of (length (moves_of lats lons))) (flat_map plain_move_bytes (moves_of lats lons) ++ (2 ∷ 2 ∷ [])),
        length-append (flat_map plain_move_bytes (moves_of lats lons)) (2 ∷ 2 ∷ []),
      )

  seen : replied w out ≡ fitted 0 (checks 0 lats lons [] >> given whole)
  unfolding border_of plain_border pieces_of first_pieces
  seen = e

  pub check_never : (size : ℕ) → w ≡ given size → ⊥
  check_never size is = never_wrote out whole two_bytes size (checks 0 lats lons []) (subst (λ (x : Reply ℕ). replied x out ≡ fitted 0 (checks 0 lats lons [] >> given whole)) is seen)

  pub check_says : (why : Refusal) → w ≡ refused why → (r : Reply (Unit {0})) → r ≡ good_if why → r ≡ checks 0 lats lons []
  check_says why is r er =
      er ∙ refused_so out whole two_bytes why (checks 0 lats lons []) (checks_numbered 0 lats lons [])
      (subst (λ (x : Reply ℕ). replied x out ≡ fitted 0 (checks 0 lats lons [] >> given whole)) is seen)
