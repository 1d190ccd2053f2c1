-- The loops that write fields: the text so far stands at the front of a buffer that is zero beyond it. Assumes nothing.
use Rattle.numbers.proofs.Prelude.{ℕ, suc, ◌+◌, ◌-◌, ◌≤◌, ◌<◌, leb-true, leb, length, take, drop, get_or, length-append, drop_of_length-le, length-take-le, drop-cons, Bool, true, false, List, [], ◌∷◌}
use Rattle.numbers.proofs.Prelude.{◌++◌, ◌≡◌, refl, sym, ap, ◌∙◌, sub-zero, add-one, arith}
use Rattle.numbers.{proofs.Replies.{given_from, carried, onward}, specs.{Lists.{zeros, padded}, Reply.{Reply, given, refused, plain, demand, ◌>>=◌, ◌>>◌}, declared.refusal.Refusal.{Refusal}}}
use Rattle.header.{proofs.Buffers.{over_length, tail_back}, specs.{Field.{Field, field, field_at, sent_of, text_after}, Text.{bytes_of, text_at}, declared.field.Sent.{Sent}}}
use Rattle.header.specs.declared.{header.Head.{Head}}
use Rattle.table.{proofs.Agreeing.{agree_given, agree_refused, gave, refused_so}, specs.{Hits.{no_hit}, declared.hits.Hit.{Hit}, inner.Agreeing.{Agrees}}}
use Rattle.zones.specs.{Fields.{fields_place, fields_from, fields_of, Wrote}}
use Rattle.zones.proofs.Holding.{Held, held_length, held_front, remains_length, written, held_all}

-- ---- one field
-- what went out, by what the code says of it
pub record Out (whole : Reply Field) (sent : Sent) : Type 0 where
  pub it : Field
  pub is : given it ≡ whole
  pub size : length it.bytes ≡ sent.size
  pub next : it.next ≡ sent.next

sent_out : {sent : Sent} (whole : Reply Field) → given sent ≡ sent_of whole → Out whole sent
sent_out {sent} (given f) e = let same : sent ≡ record { size = length f.bytes; next = f.next } = cc in
    record { it = f; is = refl; size = ap (λ (s : Sent). s.size) (sym same); next = ap (λ (s : Sent). s.next) (sym same) }
sent_out (refused why) e = let z : ◌≡◌ {A = ℕ} 0 1 = cc in absurd (omega arith)

sent_refused : {why : Refusal} (whole : Reply Field) → refused why ≡ sent_of whole → refused why ≡ whole
sent_refused (given f) e = let z : ◌≡◌ {A = ℕ} 0 1 = cc in absurd (omega arith)
sent_refused (refused why') e = cc

-- a field that is given has room
field_fits : (strict : Bool) (file : List ℕ) (metadata place tag room : ℕ) {f : Field} → given f ≡ field_at strict file metadata place tag room → length f.bytes ≤ room
unfolding field_at
field_fits strict file metadata place tag room {f} e = let text = given_from (text_at strict file metadata place _) _ e in
    go (field tag (bytes_of file text.it)) text.it.next (leb (length (field tag (bytes_of file text.it))) room) refl text.onto where
      go : (bytes : List ℕ) (next : ℕ) (test : Bool) → leb (length bytes) room ≡ test → given f ≡ (demand test (plain 18) >> given (record { bytes = bytes; next = next })) → length f.bytes ≤ room
      go bytes next true is e = let same : f ≡ record { bytes = bytes; next = next } = cc in rw same (leb-true _ _ is)
      go bytes next false is e = let z : ◌≡◌ {A = ℕ} 0 1 = cc in absurd (omega arith)

after_length : (v : Reply Field) (t : List ℕ) → ((f : Field) → given f ≡ v → length f.bytes ≤ length t) → length (text_after v t) ≡ length t
after_length (refused why) t h = refl
after_length (given f) t h = over_length f.bytes t (h f refl)

-- ---- the fields of one match
pub record Filling (file : List ℕ) (head : Head) (room count : ℕ) (whole : Reply (List ℕ)) (text : List ℕ) (at place tag : ℕ) : Type 0 where
  pub out : List ℕ
  pub held : Held room out text at
  pub tags : tag ≤ count
  pub so_far : fields_from file head room (count - tag) tag place out ≡ whole

module _ (file : List ℕ) (head : Head) (room count : ℕ) where
  pub starts : (text : List ℕ) (from place : ℕ) → from ≤ length text → text ≡ padded (length text) (take from text) → length text ≡ room
      → Filling file head room count (fields_from file head room count 0 place (take from text)) text from place 0
  starts text from place h k r = record {
    out = take from text;
    held = record { sized = length-take-le from text h; fits = omega arith; kept = k ∙ ap (λ (n : ℕ). padded n (take from text)) r };
    tags = omega arith;
    so_far = simp sub-zero;
  }

  module _ {whole : Reply (List ℕ)} {text : List ℕ} {at place tag : ℕ} (g : Filling file head room count whole text at place tag) where
    pub filling_length : length text ≡ room
    filling_length = held_length g.held

    pub ends : count ≤ tag → Agrees (Wrote room text) whole (given at)
    unfolding fields_from
    ends h = let none : count - tag ≡ 0 = omega arith in
        agree_given (Wrote room text) (ap (λ (n : ℕ). fields_from file head room n tag place g.out) (sym none) ∙ g.so_far) (record { said = sym g.held.sized; kept = g.held.kept })

    module _ (more : tag < count) (r : Reply Sent) (last : List ℕ) where
      abbrev rest : List ℕ
      rest = take (length text - at) (drop at text)

      abbrev one : ℕ → Reply Field
      one n = field_at head.strict file head.sections.metadata place tag n

      opened : (one (room - length g.out) >>= λ f. fields_from file head room (count - (tag + 1)) (tag + 1) f.next (g.out ++ f.bytes)) ≡ whole
      unfolding fields_from
      opened = let z : count - tag ≡ suc (count - (tag + 1)) = omega arith in rw z at g.so_far

      module _ (e : r ≡ sent_of (one (length rest))) where
        -- the field was not written
        pub faulted : {why : Refusal} (text' : List ℕ) → r ≡ refused why → Agrees (Wrote room text') whole (refused why)
        faulted text' is =
            agree_refused (Wrote room text') (carried (sent_refused (one (length rest)) (sym is ∙ e) ∙ ap one (remains_length g.held)) _ ∙ opened)

        module _ (l : last ≡ text_after (one (length rest)) rest) where
          pub kept_length : length (take at text ++ (last ++ drop (length text - at) (drop at text))) ≡ room
          kept_length =
              ap length (tail_back at text last)
              ∙ length-append (take at text) last
              ∙ omega (
                arith,
                length-take-le at text (omega (arith, g.held.fits, filling_length)),
                ap length l ∙ after_length (one (length rest)) rest (λ f is. field_fits head.strict file head.sections.metadata place tag (length rest) is),
                remains_length g.held,
                g.held.sized,
                g.held.fits,
              )

          -- the field was written
          pub filled : {sent : Sent} → r ≡ given sent → Filling file head room count whole (take at text ++ (last ++ drop (length text - at) (drop at text)))
              (at + sent.size) sent.next (tag + 1)
          filled {sent} is = let o = sent_out (one (length rest)) (sym is ∙ e) in
              let fits : length o.it.bytes ≤ length rest = field_fits head.strict file head.sections.metadata place tag (length rest) o.is in record {
                out = g.out ++ o.it.bytes;
                held = written g.held o.it.bytes last o.size (omega (arith, o.size, remains_length g.held)) (l ∙ ap (λ (v : Reply Field). text_after v rest) (sym o.is));
                tags = omega arith;
                so_far = ap (λ (n : ℕ). fields_from file head room (count - (tag + 1)) (tag + 1) n (g.out ++ o.it.bytes)) (sym o.next) ∙ onward (o.is
                    ∙ ap one (remains_length g.held)) _ ∙ opened;
              }

-- ---- match by match
pub record Writing (file : List ℕ) (head : Head) (room : ℕ) (all : List Hit) (whole : Reply (List ℕ)) (text : List ℕ) (at i : ℕ) : Type 0 where
  pub out : List ℕ
  pub held : Held room out text at
  pub so_far : fields_of file head room (drop i all) out ≡ whole

module _ (file : List ℕ) (head : Head) (room : ℕ) (all : List Hit) where
  pub begins : (text : List ℕ) → text ≡ zeros room → Writing file head room all (fields_of file head room all []) text 0 0
  begins text z = record { out = []; held = record { sized = refl; fits = omega arith; kept = simp sub-zero z }; so_far = refl }

  module _ {whole : Reply (List ℕ)} {text : List ℕ} {at i : ℕ} (g : Writing file head room all whole text at i) where
    pub writing_length : length text ≡ room
    writing_length = held_length g.held

    -- what `write_match` asks
    pub from_here : (at ≤ length text) × (text ≡ padded (length text) (take at text))
    from_here = (omega (arith, writing_length, g.held.fits), g.held.kept ∙ sym (λ j. padded (writing_length j) (held_front g.held j)))

    pub all_written : length all ≤ i → Agrees (Wrote room text) whole (given at)
    unfolding fields_of
    all_written h =
        agree_given (Wrote room text) (ap (λ (l : List Hit). fields_of file head room l g.out) (sym (drop_of_length-le all {i = i} h)) ∙ g.so_far)
        (record { said = sym g.held.sized; kept = g.held.kept })

    module _ (more : i < length all) (got : Hit) (is : got ≡ get_or all i no_hit) (place : ℕ) (p : place ≡ fields_place head got.metadata) (r : Reply ℕ) (last : List ℕ) where
      abbrev fields : ℕ → List ℕ → Reply (List ℕ)
      fields n out = fields_from file head n head.preamble.count 0 place out

      unrolled : (fields room g.out >>= fields_of file head room (drop (i + 1) all)) ≡ whole
      unfolding fields_of
      unrolled = let cons : drop i all ≡ got ∷ drop (i + 1) all = drop-cons all i no_hit more ∙ sym (λ j. is j ∷ drop (add-one i j) all) in rw (cons, ← p) at g.so_far

      module _ (a : Agrees (Wrote (length text) last) (fields (length text) (take at text)) r) where
        settled : Agrees (Wrote room last) (fields room g.out) r
        settled = rw (writing_length, held_front g.held) at a

        pub match_refused : {why : Refusal} (text' : List ℕ) → r ≡ refused why → Agrees (Wrote room text') whole (refused why)
        match_refused text' e = agree_refused (Wrote room text') (carried (refused_so (Wrote room last) (fields room g.out) settled e) _ ∙ unrolled)

        pub match_written : {n : ℕ} → length last ≡ room → r ≡ given n → Writing file head room all whole last n (i + 1)
        match_written {n} same e = let o = gave (Wrote room last) (fields room g.out) settled e in
            record { out = o.it; held = held_all same o.fits; so_far = onward o.is _ ∙ unrolled }
