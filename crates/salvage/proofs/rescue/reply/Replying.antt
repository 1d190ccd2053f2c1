-- The reply of salvage, by how far it came. Assumes nothing.
use Rattle.std.specs.Prelude.{is_err}
use Rattle.numbers.proofs.Prelude.{ℕ, ◌/◌, ◌^◌, ◌≤◌, ◌<◌, min, lt-ltb, le-ltb, leb-true, ltb-true, lt-leb, ltb-false, ltb, leb, length, drop, Bool, true, false, ◌&&◌, List, ◌++◌, ◌≡◌, refl}
use Rattle.numbers.proofs.Prelude.{sym, ap, subst, ◌∙◌, arith}
use Rattle.numbers.{proofs.{Lists.{zeros_drop}, Tests.{both, differ}}, specs.{Lists.{zeros, padded}, Reply.{Reply, given, refused, plain, demand, ◌>>=◌, ◌>>◌}, declared.refusal.Refusal.{Refusal}}}
use Rattle.writer.{proofs.Stores.{stored_front}, specs.inner.Stored.{Stored}}
use Rattle.header.specs.{Header.{head_by}, declared.header.Head.{Head}}
use Rattle.salvage.specs.{File.{head_texts, new_file}, Kept.{kept_of, lines_from}, Salvage.{Salvaged, Counts, Replied, replied_of, salvaged_of, salvaged}, declared.rescue.lines.Lines.{Lines}}
use Rattle.salvage.specs.inner.{Moves.Laid.{cap, Capped}, Rescue.{Texts.{Inlined}, Told.{replied, Filled}, Turns.{Listed}}}
use Rattle.salvage.specs.inner.Rescue.Whole.{whole_of}
use Rattle.table.specs.{Rows.{rows_in}, declared.rows.Row.{Row}}

-- ---- room
-- against the outputs as they were lent
pub room_as : {t : Bool} (size count : ℕ) {n m room list : ℕ} → t ≡ (leb size (min n (2 ^ 30)) && leb count m) → n ≡ room → m ≡ list → t ≡ (leb size (min room (2 ^ 30)) && leb count list)
room_as {t} size count {n} {m} {room} {list} e is is' =
    e ∙ ap (λ (k : ℕ). leb size (min k (2 ^ 30)) && leb count m) is ∙ ap (λ (k : ℕ). leb size (min room (2 ^ 30)) && leb count k) is'

pub filled_at : (file : List ℕ) {words words' room room' : ℕ} (r : Reply Counts) (list out : List ℕ) → words' ≡ words → room' ≡ room →
    Filled (salvaged_of file words' room') words' room' r list out → Filled (salvaged_of file words room) words room r list out
filled_at file {words} {words'} {room} {room'} r list out e e' f =
    subst (λ (n : ℕ). Filled (salvaged_of file words n) words n r list out) e' (subst (λ (n : ℕ). Filled (salvaged_of file n room') n room' r list out) e f)

-- bytes stored over zeros are followed by zeros
stored_padded : (room : ℕ) (before bytes after : List ℕ) (next : ℕ) → before ≡ zeros room → Stored before 0 bytes after next → length before ≡ room → length bytes ≤ room → after ≡ padded room bytes
stored_padded room before bytes after next zero s size h =
    stored_front before bytes after next s (omega (arith, size)) ∙ ap (λ (xs : List ℕ). bytes ++ drop (length bytes) xs) zero ∙ ap (λ (xs : List ℕ). bytes ++ xs) (zeros_drop (length bytes) room)

-- a place that was counted with a cap fits where the bytes fit
same_room : {before bytes after : List ℕ} {size : ℕ} (m : ℕ) → m ≤ 2 ^ 30 → Capped before 0 bytes after size → leb size m ≡ leb (length bytes) m
same_room {before} {bytes} {after} {size} m h c = go (ltb size cap) refl where
  go : (t : Bool) → ltb size cap ≡ t → leb size m ≡ leb (length bytes) m
  go true is = ap (λ (n : ℕ). leb n m) (let n : size ≡ length bytes = omega (arith, (c.fits (ltb-true size cap is)).place_after) in n)
  go false is = lt-leb size m (omega (arith, ltb-false size cap is)) ∙ sym (lt-leb (length bytes) m (omega (arith, c.over (ltb-false size cap is))))

-- a list that was stored has the words that were counted
counted : {before bytes after : List ℕ} {next : ℕ} → Stored before 0 bytes after next → next ≡ length bytes
counted s = omega (arith, s.place_after)

module _ (file : List ℕ) (words room : ℕ) where
  -- ---- the file does not open
  pub no_head : {why : Refusal} {list out : List ℕ} → refused why ≡ head_by true file → list ≡ zeros words → out ≡ zeros room → replied (refused why) list out ≡ salvaged file words room
  unfolding salvaged salvaged_of
  no_head e l o = rw (← e, l, o)

  -- ---- what was filled in, or not
  pub told_refused : (a : Reply Salvaged) → a ≡ salvaged_of file words room → (r : Reply Counts) → is_err r ≡ true → (filled filled' : List ℕ) {list out : List ℕ}
      → Filled a words room r filled filled' → list ≡ zeros words → out ≡ zeros room → replied r list out ≡ salvaged file words room
  unfolding salvaged
  told_refused a e (given counts) bad filled filled' f l o = differ bad
  told_refused (given s) e (refused why) bad filled filled' f l o = let same = ap (λ (x : Replied). x.reply) f in let z : ◌≡◌ {A = ℕ} 0 1 = cc in absurd (omega arith)
  told_refused (refused w) e (refused why) bad filled filled' f l o = rw (← e, l, o, f)

  pub told_counts : (a : Reply Salvaged) → a ≡ salvaged_of file words room → (r : Reply Counts) → is_err r ≡ false → {list out : List ℕ} → Filled a words room r list out →
      replied r list out ≡ salvaged file words room
  unfolding salvaged
  told_counts a e (refused why) bad f = differ (sym bad)
  told_counts (given s) e (given counts) bad f = f ∙ ap (replied_of words room) e
  told_counts (refused w) e (given counts) bad f = let z : ◌≡◌ {A = ℕ} 0 1 = cc in absurd (omega arith)

  module _ {head : Head} (opens : given head ≡ head_by true file) where
    abbrev kept : List Row
    kept = kept_of file head (rows_in file head)

    abbrev lines : List ℕ
    lines = lines_from file head 0 (rows_in file head)

    abbrev new : List ℕ → List ℕ
    new texts = new_file file head texts kept

    abbrev done : List ℕ → Salvaged
    done texts = record { file = new texts; lines = lines; kept = kept }

    abbrev judged : List ℕ → Reply Salvaged
    judged texts = demand (leb (length (new texts)) (min room (2 ^ 30)) && leb (length lines) words) (plain 28) >> (demand (ltb 0 (length kept)) (plain 32) >> given (done texts))

    opened : (head_texts file head >>= judged) ≡ salvaged_of file words room
    unfolding salvaged_of
    opened = rw (← opens)

    -- ---- a text does not fit
    pub filled_refused : (before after list out : List ℕ) (why : Refusal) {r : Reply Counts} → r ≡ refused why → Inlined (whole_of file head) before 0 after (refused why) →
        Filled (salvaged_of file words room) words room r list out
    filled_refused before after list out why is i = rw is (subst (λ (a : Reply Salvaged). Filled a words room (refused why) list out) opened (go (head_texts file head) i)) where
      go : (r : Reply (List ℕ)) → Inlined (r >>= λ texts. given (new texts)) before 0 after (refused why) → Filled (r >>= judged) words room (refused why) list out
      go (given texts) i = absurd i
      go (refused w) i = ap refused i

    -- ---- file and list were written
    module _ (before out : List ℕ) (size : ℕ) (i : Inlined (whole_of file head) before 0 out (given size)) (first list : List ℕ) (l : Lines) (w : Listed file head first list l) where
      tests : (texts : List ℕ) → Capped before 0 (new texts) out size →
          (leb size (min room (2 ^ 30)) && leb l.words words) ≡ (leb (length (new texts)) (min room (2 ^ 30)) && leb (length lines) words)
      tests texts c =
          ap (λ (t : Bool). t && leb l.words words) (same_room (min room (2 ^ 30)) (omega arith) c)
          ∙ ap (λ (n : ℕ). leb (length (new texts)) (min room (2 ^ 30)) && leb n words) (counted w.words)

      -- by what the texts gave
      by : (r : Reply Counts) (list' out' : List ℕ) → ((texts : List ℕ) → Capped before 0 (new texts) out size → Filled (judged texts) words room r list' out') →
          Filled (salvaged_of file words room) words room r list' out'
      by r list' out' k = subst (λ (a : Reply Salvaged). Filled a words room r list' out') opened (go (head_texts file head) i) where
        go : (texts : Reply (List ℕ)) → Inlined (texts >>= λ bytes. given (new bytes)) before 0 out (given size) → Filled (texts >>= judged) words room r list' out'
        go (given texts) c = k texts c
        go (refused why) c = absurd c

      module _ {t : Bool} (has : t ≡ (leb size (min room (2 ^ 30)) && leb l.words words)) where
        no_room : (list' out' : List ℕ) → t ≡ false → Filled (salvaged_of file words room) words room (refused (plain 28)) list' out'
        no_room list' out' not_so =
            by (refused (plain 28)) list' out' (λ texts c. subst (λ (b : Bool). Filled (demand b (plain 28) >> (demand (ltb 0 (length kept)) (plain 32) >> given (done texts)))
            words room (refused (plain 28)) list' out') (sym not_so ∙ has ∙ tests texts c) refl)

        pub filled_28 : {why : Refusal} → why ≡ plain 28 → (list' out' : List ℕ) → t ≡ false → Filled (salvaged_of file words room) words room (refused why) list' out'
        filled_28 is list' out' not_so = subst (λ (r : Refusal). Filled (salvaged_of file words room) words room (refused r) list' out') (sym is) (no_room list' out' not_so)

        none_left : (list' out' : List ℕ) → t ≡ true → l.kept ≤ 0 → Filled (salvaged_of file words room) words room (refused (plain 32)) list' out'
        none_left list' out' yes' none =
            by (refused (plain 32)) list' out' (λ texts c. subst (λ (b : Bool). Filled (demand b (plain 28) >> (demand (ltb 0 (length kept)) (plain 32) >> given (done texts)))
            words room (refused (plain 32)) list' out') (sym yes' ∙ has ∙ tests texts c) (subst (λ (b : Bool). Filled (demand b (plain 32) >> given (done texts))
            words room (refused (plain 32)) list' out') (sym (le-ltb 0 (length kept) (omega (arith, w.kept)))) refl))

        pub filled_32 : {why : Refusal} → why ≡ plain 32 → (list' out' : List ℕ) → t ≡ true → l.kept ≤ 0 → Filled (salvaged_of file words room) words room (refused why) list' out'
        filled_32 is list' out' yes' none = subst (λ (r : Refusal). Filled (salvaged_of file words room) words room (refused r) list' out') (sym is) (none_left list' out' yes' none)

        pub filled_all : before ≡ zeros room → length before ≡ room → first ≡ zeros words → length first ≡ words → t ≡ true → 0 < l.kept
            → Filled (salvaged_of file words room) words room (given (record { size = size; lines = l.words / 2; kept = l.kept })) list out
        filled_all zero wide zero' wide' yes' some =
            by (given (record { size = size; lines = l.words / 2; kept = l.kept })) list out (λ texts c. let fits = both (leb size (min room (2 ^ 30)))
            (leb l.words words) (sym has ∙ yes') in subst (λ (b : Bool). Filled (demand b (plain 28) >> (demand (ltb 0 (length kept)) (plain 32) >> given (done texts)))
            words room (given (record { size = size; lines = l.words / 2; kept = l.kept })) list out) (sym yes' ∙ has ∙ tests texts c)
            (subst (λ (b : Bool). Filled (demand b (plain 32) >> given (done texts)) words room (given (record { size = size; lines = l.words / 2; kept = l.kept })) list out)
            (sym (lt-ltb 0 (length kept) (omega (arith, w.kept)))) (all texts (leb-true size (min room (2 ^ 30)) fits.0) (leb-true l.words words fits.1) c))) where
              all : (texts : List ℕ) → size ≤ min room (2 ^ 30) → l.words ≤ words → Capped before 0 (new texts) out size
                  → replied (given (record { size = size; lines = l.words / 2; kept = l.kept })) list out ≡ replied_of words room (given (done texts))
              all texts fits fits' c = let s = c.fits (omega arith) in let n : size ≡ length (new texts) = counted s in
                  let m : l.words ≡ length lines = counted w.words in
                  let o : out ≡ padded room (new texts) = stored_padded room before (new texts) out size zero s wide (omega (arith, n)) in
                  let p : list ≡ padded words lines = stored_padded words first lines list l.words zero' w.words wide' (omega (arith, m)) in
                  rw (n, m, o, p, w.kept)
