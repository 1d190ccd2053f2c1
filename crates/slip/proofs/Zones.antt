-- The zones of a line, one match after another. Assumes nothing.
use Rattle.numbers.proofs.Prelude.{ℕ, zero, suc, ◌+◌, ◌≤◌, ◌<◌, ℤ, length, take, drop, get_or, drop_of_length-le, drop-cons, take-suc, Bool, true, false, ◌||◌, List, [], ◌∷◌, ◌++◌, append_assoc}
use Rattle.numbers.proofs.Prelude.{append-nil, ◌≡◌, refl, sym, ap, subst, ◌∙◌, add-one, arith}
use Rattle.numbers.{proofs.Replies.{given_from, given_one}, specs.{Reply.{Reply, given, refused}, declared.refusal.Refusal.{Refusal}}}
use Rattle.header.specs.declared.header.Head.{Head}
use Rattle.bundle.specs.Bundle.{find_of}
use Rattle.calendar.specs.Civil.{civil_at}
use Rattle.line.{proofs.Puts.{put_none, put_as, put_then, put_length}, specs.Put.{Put}}
use Rattle.slip.proofs.Asking.{Asked, asked_none, asked_one, asked_stop, asked_all}
use Rattle.slip.specs.{Hour.{Hour, name_of, local_in, shown, hour_in, of_match, hour_of, hours_from}, Line.{clock_text, is_among, between, zone_text, added, zones_from, line_of}}
use Rattle.slip.specs.{Told.{name_in, is_named, is_named_in, added_by, Lined, Inked, Seen, FirstAt}, declared.hours.All.{All}}
use Rattle.tzif.specs.Text.{slice}
use Rattle.table.specs.{Hits.{no_hit}, declared.hits.Hit.{Hit}}
use Rattle.zones.specs.{Simple.{same}, declared.simple.Parts.{Parts}}
use Rattle.request.specs.Told as T

first_same : {A : Type 0} {a b : A} {xs ys : List A} → a ∷ xs ≡ b ∷ ys → a ≡ b
first_same e = cc

differ : {A : Type 0} {a : A} {why : Refusal} → refused why ≡ given a → ◌≡◌ {A = ℕ} 0 1
differ e = cc

-- the first of the first
pub first_of : {A : Type 0} (i n : ℕ) (xs : List A) → i ≤ n → take i xs ≡ take i (take n xs)
first_of zero n xs h = refl
first_of (suc i) zero xs h = absurd (omega arith)
first_of (suc i) (suc n) [] h = refl
first_of (suc i) (suc n) (x ∷ xs) h = ap (λ (l : List _). x ∷ l) (first_of i n xs (omega arith))

-- one more match adds its zone behind the others
zones_more : (before done : List Hour) (hour : Hour) → zones_from before (done ++ (hour ∷ [])) ≡ zones_from before done ++ added (before ++ done) hour
unfolding zones_from
zones_more before [] hour = append-nil (added before hour) ∙ ap (λ (b : List Hour). added b hour) (sym (append-nil before))
zones_more before (one ∷ done) hour =
    ap (λ (text : List ℕ). added before one ++ text) (zones_more (before ++ (one ∷ [])) done hour)
    ∙ sym (append_assoc (added before one) (zones_from (before ++ (one ∷ [])) done) (added ((before ++ (one ∷ [])) ++ done) hour))
    ∙ ap (λ (b : List Hour). (added before one ++ zones_from (before ++ (one ∷ [])) done) ++ added b hour) (append_assoc before (one ∷ []) done)

pub zones_one : (done : List Hour) (hour : Hour) → zones_from [] (done ++ (hour ∷ [])) ≡ zones_from [] done ++ added done hour
zones_one done hour = zones_more [] done hour

-- ---- a match has the name, by the code's answer
module _ (file : List ℕ) (head : Head) (metadata : ℕ) (name : List ℕ) (zone : Reply Parts) (e : T.shown zone (name_in file) ≡ name_of file head metadata) where
  pub is_called : {other : Parts} {r : Bool} → zone ≡ given other → r ≡ same (name_in file other) name → r ≡ is_named (name_of file head metadata) name
  unfolding is_named
  is_called is r = r ∙ ap (λ (x : Reply Parts). is_named (T.shown x (name_in file)) name) (sym is) ∙ ap (λ (x : Reply (List ℕ)). is_named x name) e

  pub not_called : {why : Refusal} → zone ≡ refused why → false ≡ is_named (name_of file head metadata) name
  unfolding is_named
  not_called is = ap (λ (x : Reply Parts). is_named (T.shown x (name_in file)) name) (sym is) ∙ ap (λ (x : Reply (List ℕ)). is_named x name) e

-- ---- one of the matches has it
module _ (file : List ℕ) (head : Head) (name : List ℕ) (matches : List Hit) (i : ℕ) {whole : Bool} (so_far : is_named_in file head name (drop i matches) ≡ whole) where
  pub none_is : length matches ≤ i → false ≡ whole
  unfolding is_named_in
  none_is h = ap (is_named_in file head name) (sym (drop_of_length-le matches {i = i} h)) ∙ so_far

  module _ (more : i < length matches) {hit : Hit} (is : hit ≡ get_or matches i no_hit) {test : Bool} (t : test ≡ is_named (name_of file head hit.metadata) name) where
    opened : (test || is_named_in file head name (drop (i + 1) matches)) ≡ whole
    unfolding is_named_in
    opened = let cons : drop i matches ≡ hit ∷ drop (i + 1) matches = drop-cons matches i no_hit more ∙ (λ j. sym is j ∷ drop (sym (add-one i) j) matches) in
        ap (λ (x : Bool). x || is_named_in file head name (drop (i + 1) matches)) t ∙ ap (is_named_in file head name) (sym cons) ∙ so_far

    pub one_is : test ≡ true → true ≡ whole
    one_is e = rw e at opened

    pub others_are : test ≡ false → is_named_in file head name (drop (i + 1) matches) ≡ whole
    others_are e = rw e at opened

-- what a match adds, by the code's test
pub added_none : {stands : Bool} (i : ℕ) (hour : Hour) → stands ≡ true → [] ≡ added_by stands i hour
unfolding added_by
added_none i hour e = rw e refl

pub added_some : {stands : Bool} (i : ℕ) (hour : Hour) → stands ≡ false → between i ++ zone_text hour ≡ added_by stands i hour
unfolding added_by
added_some i hour e = rw e refl

-- ---- the names of the matches are those of their hours
module _ (file : List ℕ) (head : Head) where
  unfoldable pub Named : List Hit → List Hour → Type 0
  Named [] [] = Unit {0}
  Named [] (hour ∷ hours) = ⊥
  Named (match ∷ matches) [] = ⊥
  Named (match ∷ matches) (hour ∷ hours) = (name_of file head match.metadata ≡ given hour.name) × Named matches hours

  named_one : (matches : List Hit) (hours : List Hour) (match : Hit) (hour : Hour) → Named matches hours → name_of file head match.metadata ≡ given hour.name
      → Named (matches ++ (match ∷ [])) (hours ++ (hour ∷ []))
  unfolding Named
  named_one [] [] match hour n e = (e, tt)
  named_one [] (h ∷ hours) match hour n e = absurd n
  named_one (m ∷ matches) [] match hour n e = absurd n
  named_one (m ∷ matches) (h ∷ hours) match hour n e = (n.0, named_one matches hours match hour n.1 e)

  named_among : (matches : List Hit) (hours : List Hour) (name : List ℕ) → Named matches hours → is_named_in file head name matches ≡ is_among name hours
  unfolding Named is_named_in is_named is_among
  named_among [] [] name n = refl
  named_among [] (h ∷ hours) name n = absurd n
  named_among (m ∷ matches) [] name n = absurd n
  named_among (m ∷ matches) (h ∷ hours) name n = λ i. is_named (n.0 i) name || named_among matches hours name n.1 i

-- a match that says an hour has its name
pub same_match : {A : Type 0} (number : ℕ) {a : A} (reply : Reply A) → given a ≡ of_match number reply → given a ≡ reply
same_match number (given b) e = e
same_match number (refused why) e = let z : ◌≡◌ {A = ℕ} 0 1 = cc in absurd (omega arith)

hour_name : (zones : List ℕ) (instant : ℤ) (name : List ℕ) {hour : Hour} → given hour ≡ hour_in zones instant name → hour.name ≡ name
unfolding hour_in
hour_name zones instant name {hour} e = let file = given_from (find_of zones name) _ e in
    let found = given_from (local_in (slice zones file.it.start file.it.length) instant) _ file.onto in
    let reading = given_from (shown (civil_at instant found.it.offset)) _ found.onto in ap (λ (h : Hour). h.name) (given_one reading.onto)

-- ---- the zones so far
module _ (file : List ℕ) (head : Head) (zones : List ℕ) (instant : ℤ) where
  pub says_name : (number : ℕ) (hit : Hit) {hour : Hour} → hour_of file head zones instant number hit ≡ given hour → name_of file head hit.metadata ≡ given hour.name
  unfolding hour_of
  says_name number hit {hour} e = let name = given_from (name_of file head hit.metadata) _ (sym e) in
      sym (ap given (hour_name zones instant name.it (same_match number _ name.onto)) ∙ name.is)

  -- the first i matches have added theirs
  pub record Lining (matches : List Hit) (before : List ℕ) (at : ℕ) (now : List ℕ) (next i : ℕ) : Type 0 where
    pub done : List Hour
    pub asked : Asked file head zones instant matches i done
    pub named : Named file head (take i matches) done
    pub put : Put before at (zones_from [] done) now next

  pub lining_none : (matches : List Hit) (before : List ℕ) (at : ℕ) → Lining matches before at before at 0
  unfolding Named zones_from
  lining_none matches before at = record { done = []; asked = asked_none file head zones instant matches; named = tt; put = put_none before at }

  module _ (matches : List Hit) (before : List ℕ) (at : ℕ) (now : List ℕ) (next i : ℕ) (l : Lining matches before at now next i) where
    pub lining_kept : length now ≡ length before
    lining_kept = put_length l.put

    module _ (more : i < length matches) {hit : Hit} (is : hit ≡ get_or matches i no_hit) where
      pub lining_one : {hour : Hour} {after : List ℕ} {end : ℕ} → hour_of file head zones instant (i + 1) hit ≡ given hour
          → Put now next (added_by (is_named_in file head hour.name (take i matches)) i hour) after end → Lining matches before at after end (i + 1)
      unfolding added_by added
      lining_one {hour} e p = record {
        done = l.done ++ (hour ∷ []);
        asked = asked_one file head zones instant matches i l.done l.asked more is e;
        named =
            subst (λ (ms : List Hit). Named file head ms (l.done ++ (hour ∷ [])))
            (sym (ap (λ (k : ℕ). take k matches) (add-one i) ∙ take-suc matches i no_hit more ∙ (λ j. take i matches ++ (sym is j ∷ []))))
            (named_one file head (take i matches) l.done hit hour l.named (says_name (i + 1) hit e));
        put =
            put_as (sym (zones_one l.done hour))
            (put_then _ _ l.put (put_as (λ j. added_by (named_among file head (take i matches) l.done hour.name l.named j) (sym l.asked.many j) hour) p));
      }

      pub lining_stop : {why : Refusal} → hour_of file head zones instant (i + 1) hit ≡ refused why → Lined (hours_from file head zones instant 1 matches) before at now next
      lining_stop e = record {
        zones = λ h. let z : ◌≡◌ {A = ℕ} 0 1 = differ (asked_stop file head zones instant matches i l.done l.asked more is e ∙ h) in absurd (omega arith);
        kept = lining_kept;
      }

    pub lining_all : length matches ≤ i → Lined (hours_from file head zones instant 1 matches) before at now next
    lining_all h = record {
      zones = λ e. put_as (ap (zones_from []) (given_one (asked_all file head zones instant matches i l.done l.asked h ∙ e))) l.put;
      kept = lining_kept;
    }

-- where all matches said an hour, the first said the first
pub first_at : (file : List ℕ) (head : Head) (zones : List ℕ) (instant : ℤ) (matches : List Hit) {hs : List Hour} {all : All} {first : Hit} → given hs ≡ hours_from file head zones instant 1 matches
    → Seen file zones hs all → first ≡ get_or matches 0 no_hit → FirstAt file head zones instant first all.first
unfolding hours_from
first_at file head zones instant [] e seen is = let z : ◌≡◌ {A = List Hour} [] (_ ∷ _) = given_one (sym e) ∙ seen.are in let n : ◌≡◌ {A = ℕ} 0 1 = cc in absurd (omega arith)
first_at file head zones instant (match ∷ matches) e seen is = let hour = given_from (hour_of file head zones instant 1 match) _ e in
    let rest = given_from (hours_from file head zones instant 2 matches) _ hour.onto in record {
      says = ap (hour_of file head zones instant 1) is ∙ sym hour.is ∙ ap given (first_same (sym (given_one rest.onto) ∙ seen.are));
      stands = seen.stands;
    }

-- the clock, and the zones behind it
pub inked : {hours : Reply (List Hour)} (hour : Hour) {before middle after : List ℕ} {at next : ℕ} → Put before 0 (clock_text hour.reading hour.offset) middle at
    → Lined hours middle at after next → Inked hours hour before after next
unfolding line_of
inked hour p l = record { line = λ e. put_then _ _ p (l.zones e); kept = l.kept ∙ put_length p }
