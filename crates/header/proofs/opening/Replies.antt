-- The reply of `open`, by how far it came. Assumes nothing.
use Rattle.numbers.proofs.Prelude.{ℕ, leb-true, leb-false, leb, length, Bool, true, false, List, ◌≡◌, refl, sym, ap, subst, ◌∙◌, arith}
use Rattle.numbers.{proofs.Replies.{carried, onward}, specs.{Lists.{zeros}, Reply.{Reply, given, refused, plain, demand, ◌>>◌}, declared.refusal.Refusal.{Refusal}}}
use Rattle.header.specs.{Header.{Texts, texts_of, Contents, head_by}, Opening.{Filled, fitting_of, replied, replied_of, opened_by}, declared.{header.Head.{Head}, opening.Opening.{Opening}}}
use Rattle.header.proofs.{ReadFrom.{ReadFrom, read_from}, header.Heads.{head_refused}}
use Rattle.std.specs.Prelude.{Option, Some, None}

module _ (strict : Bool) (file : List ℕ) (room : ℕ) where
  -- from the contents to the reply with the text
  so : (r : Reply Opening) (text : List ℕ) (contents : Reply Contents) → contents ≡ fitting_of strict file room → replied r text ≡ replied_of room contents → replied r text ≡ opened_by strict file room
  unfolding opened_by
  so r text contents e is = is ∙ ap (replied_of room) e

  refused_so : {r : Reply Opening} {why : Refusal} (text : List ℕ) → r ≡ refused why → text ≡ zeros room → refused why ≡ fitting_of strict file room → replied r text ≡ opened_by strict file room
  refused_so {r} {why} text is z e = so r text (refused why) e (rw (is, z) refl)

  -- the header is refused
  pub no_head : {r : Reply Opening} {why : Refusal} (text : List ℕ) → r ≡ refused why → text ≡ zeros room → refused why ≡ head_by strict file → replied r text ≡ opened_by strict file room
  unfolding fitting_of
  no_head {r} {why} text is z e = refused_so text is z (carried (head_refused strict file why e) _)

  module _ (head : Head) (e : given head ≡ head_by strict file) where
    named : ReadFrom strict file head
    named = read_from strict file e

    abbrev contents : Contents
    contents = record { head = head; bytes = named.texts.bytes }

    -- what is made of names and notice
    is_checked : (demand (leb (length named.texts.bytes) room) (plain 18) >> given contents) ≡ fitting_of strict file room
    unfolding fitting_of
    is_checked = onward named.contents _

    filled : (wrote : Option ℕ) (out : List ℕ) → Filled (texts_of strict file head.preamble.count) room wrote out → Filled (given named.texts) room wrote out
    filled wrote out f = subst (λ (t : Reply Texts). Filled t room wrote out) (sym named.texts_are) f

    -- names and notice have no room
    pub no_room : {r : Reply Opening} (out text : List ℕ) → Filled (texts_of strict file head.preamble.count) room None out → r ≡ refused (plain 18)
        → text ≡ zeros room → replied r text ≡ opened_by strict file room
    no_room out text f is z = refused_so text is z (by_room (leb (length named.texts.bytes) room) refl ∙ is_checked) where
      by_room : (test : Bool) → leb (length named.texts.bytes) room ≡ test → ◌≡◌ {A = Reply Contents} (refused (plain 18)) (demand test (plain 18) >> given contents)
      by_room true is = let both = ((filled None out f).0 (leb-true _ _ is)).0 in let no : ◌≡◌ {A = ℕ} 0 1 = cc in absurd (omega arith)
      by_room false is = refl

    abbrev opening : ℕ → Reply Opening
    opening used = given (record { kind = head.preamble.kind; version = head.preamble.version; precision = head.preamble.precision; count = head.preamble.count; used = used })

    -- they are in the text
    pub opened : (used : ℕ) (text : List ℕ) → Filled (texts_of strict file head.preamble.count) room (Some used) text → replied (opening used) text ≡ opened_by strict file room
    opened used text f = by_room (leb (length named.texts.bytes) room) refl where
      by_room : (test : Bool) → leb (length named.texts.bytes) room ≡ test → replied (opening used) text ≡ opened_by strict file room
      by_room true is = let both = (filled (Some used) text f).0 (leb-true _ _ is) in let size : used ≡ length named.texts.bytes = cc both.0 in
          so (opening used) text (given contents) (rw is at is_checked) (rw (size, both.1) refl)
      by_room false is = let none = (filled (Some used) text f).1 (leb-false _ _ is) in let no : ◌≡◌ {A = ℕ} 0 1 = cc in absurd (omega arith)
