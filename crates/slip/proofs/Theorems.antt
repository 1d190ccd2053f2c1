-- What the slip promises, by name. Assumes nothing.
use Rattle.numbers.proofs.Prelude.{ℕ, ◌+◌, ◌-◌, ◌^◌, ◌≤◌, ◌<◌, eqb, ℤ, length, take, length-append, take_at, mag, true, false, ◌||◌, List, [], ◌∷◌, ◌++◌, inl, inr, ◌≡◌}
use Rattle.numbers.proofs.Prelude.{refl, sym, ap, subst, ◌∙◌, arith}
use Rattle.numbers.{proofs.Replies.{NumberedReply, number_of_lem, onward}, specs.{Lists.{zeros, padded}, Reply.{Reply, given, refused, plain, demand, ◌>>=◌, ◌>>◌}, declared.refusal.Refusal.{Refusal}}}
use Rattle.atlas.{proofs.{AtlasIsPlain.{alike_from}, BesideIsPlain.{zones_beside_is_plain}}, specs.{Atlas.{is_atlas_of}, Beside.{NoneOrAtlas}}}
use Rattle.calendar.{proofs.{Laws.{weekday_closed}, Months.{month_short}}, specs.{Calendar.{is_leap, day_number}, Civil.{Shows}, declared.civil.Reading.{Reading}}}
use Rattle.header.specs.Header.{head_of}
use Rattle.request.specs.{Request.{request_of}, declared.read.Fix.{Fix}}
use Rattle.slip.proofs.{Clocks.{Fitting, reads_back}, Making.{after_lookup, made, behind, meant, each_says, hours_long, first, first_hourly}}
use Rattle.slip.proofs.Numbered.{slip_at_told, slip_at_beside_told, slip_told, slip_beside_told}
use Rattle.slip.proofs.Shortness.{Named, names_short, clock_short, zones_all}
use Rattle.slip.specs.{Hour.{Hour}, Line.{clock_text, is_among, between, zone_text, added, zones_from, line_of}, ReadBack.{read_back}}
use Rattle.slip.specs.Says.{Meant, Whole, AllSay, Agreed, Clocked, Short, is_at_number, is_slip_number, zones_most}
use Rattle.slip.specs.{Slip.{Slip, place_of, on_globe, slip_at, slip_of, Replied, replied, replied_of, slipped_at, slipped}, declared.slip.Stamped.{Stamped}}
use Rattle.std.specs.Prelude.{Result}
use Rattle.table.specs.{Hits.{words}, declared.hits.Hit.{Hit}}
use Rattle.zones.{proofs.WholeMeansWhole.{whole_means_whole}, specs.{Lookup.{zones_in, looked_up}, declared.lookup.Zones.{Zones}}}
use Rattle.zones.specs.Lent as L

-- ---- one slip
one_reply : (whole : Replied) (r r' : Result Stamped Refusal) (hs hs' ts ts' os os' : List ℕ) → replied r hs ts os ≡ whole → replied r' hs' ts' os' ≡ whole
    → (r ≡ r') × (hs ≡ hs') × (ts ≡ ts') × (os ≡ os')
one_reply whole r r' hs hs' ts ts' os os' e e' = let same = e ∙ sym e' in
    (ap (λ (x : Replied). x.reply) same, ap (λ (x : Replied). x.hits) same, ap (λ (x : Replied). x.text) same, ap (λ (x : Replied). x.out) same)

-- Two replies that the promise permits are one, with all lent output.
pub one_slip_at : (fix : Fix) (map atlas zones : List ℕ) (n room size : ℕ) (r r' : Result Stamped Refusal) (hs hs' ts ts' os os' : List ℕ)
    → replied r hs ts os ≡ slipped_at fix map atlas zones n room size → replied r' hs' ts' os' ≡ slipped_at fix map atlas zones n room size
    → (r ≡ r') × (hs ≡ hs') × (ts ≡ ts') × (os ≡ os')
one_slip_at fix map atlas zones n room size = one_reply (slipped_at fix map atlas zones n room size)

pub one_slip : (request map atlas zones : List ℕ) (n room size : ℕ) (r r' : Result Stamped Refusal) (hs hs' ts ts' os os' : List ℕ) → replied r hs ts os ≡ slipped request map atlas zones n room size
    → replied r' hs' ts' os' ≡ slipped request map atlas zones n room size → (r ≡ r') × (hs ≡ hs') × (ts ≡ ts') × (os ≡ os')
one_slip request map atlas zones n room size = one_reply (slipped request map atlas zones n room size)

-- ---- an atlas
-- what follows the lookup is the same
slip_at_beside : (fix : Fix) (map atlas zones : List ℕ) → NoneOrAtlas map atlas → (n room size : ℕ) → slip_at fix map atlas zones n room size ≡ slip_at fix map [] zones n room size
unfolding slip_at
slip_at_beside fix map atlas zones so n room size =
    ap (λ (slip : Reply Slip). demand (on_globe fix) (plain 84) >> slip) (alike_from (head_of map) (λ head opened. ap (λ (looked : Reply (L.Outcome Zones)). looked
    >>= after_lookup fix map head zones size) (zones_beside_is_plain map atlas so opened (place_of fix) false n room
    ∙ sym (zones_beside_is_plain map [] (inl refl) opened (place_of fix) false n room))))

-- Where `is_atlas` says 0 of map and atlas, whoever wrote it, the slip through it is the slip without: what is stamped, the line, refusals and all lent output.
pub slip_at_atlas_is_plain : (fix : Fix) (map atlas zones : List ℕ) → is_atlas_of map atlas ≡ given tt → (n room size : ℕ)
    → slipped_at fix map atlas zones n room size ≡ slipped_at fix map [] zones n room size
unfolding slipped_at
slip_at_atlas_is_plain fix map atlas zones is n room size = ap (replied_of n room size) (slip_at_beside fix map atlas zones (inr is) n room size)

pub slip_atlas_is_plain : (request map atlas zones : List ℕ) → is_atlas_of map atlas ≡ given tt → (n room size : ℕ)
    → slipped request map atlas zones n room size ≡ slipped request map [] zones n room size
unfolding slipped slip_of
slip_atlas_is_plain request map atlas zones is n room size =
    ap (replied_of n room size) (alike_from (request_of request) (λ fix asked. slip_at_beside fix map atlas zones (inr is) n room size))

-- ---- not stamped
zeroes : (n room size : ℕ) (whole : Reply Slip) (why : Refusal) (hs ts os : List ℕ) → replied (refused why) hs ts os ≡ replied_of n room size whole
    → (hs ≡ zeros n) × (ts ≡ zeros room) × (os ≡ zeros size)
unfolding replied_of
zeroes n room size (given slip) why hs ts os e = let said = ap (λ (x : Replied). x.reply) e in let z : ◌≡◌ {A = ℕ} 0 1 = cc in absurd (omega arith)
zeroes n room size (refused w) why hs ts os e = (ap (λ (x : Replied). x.hits) e, ap (λ (x : Replied). x.text) e, ap (λ (x : Replied). x.out) e)

-- Where it is not stamped, hits, text and line are zero throughout.
pub slip_at_refusal_zeroes : (fix : Fix) (map atlas zones : List ℕ) (n room size : ℕ) (why : Refusal) (hs ts os : List ℕ) → replied (refused why) hs ts os ≡ slipped_at fix map atlas zones n room size
    → (hs ≡ zeros n) × (ts ≡ zeros room) × (os ≡ zeros size)
unfolding slipped_at
slip_at_refusal_zeroes fix map atlas zones n room size why hs ts os e = zeroes n room size (slip_at fix map atlas zones n room size) why hs ts os e

pub slip_refusal_zeroes : (request map atlas zones : List ℕ) (n room size : ℕ) (why : Refusal) (hs ts os : List ℕ) → replied (refused why) hs ts os ≡ slipped request map atlas zones n room size
    → (hs ≡ zeros n) × (ts ≡ zeros room) × (os ≡ zeros size)
unfolding slipped
slip_refusal_zeroes request map atlas zones n room size why hs ts os e = zeroes n room size (slip_of request map atlas zones n room size) why hs ts os e

-- ---- stamped
-- Where it is stamped, without an atlas or through one, the search was whole: the lent hits and text are those of the lookup of what is asked about, and this
-- is the answer of a search that never stops early.
pub slip_at_whole : (fix : Fix) (map atlas zones : List ℕ) → NoneOrAtlas map atlas → (n room size : ℕ) (stamped : Stamped) (hs ts os : List ℕ)
    → replied (given stamped) hs ts os ≡ slipped_at fix map atlas zones n room size → Whole fix map n room hs ts
unfolding slipped_at looked_up zones_in L.replied_of
slip_at_whole fix map atlas zones so n room size stamped hs ts os e = let b = behind n room size (slip_at fix map atlas zones n room size) stamped hs ts os e in
    let m = made fix map atlas zones n room size b.is in let matches = ap (λ (s : Slip). s.matches) m.is in
    let text = ap (λ (s : Slip). s.text) m.is in
    let looked : looked_up map (place_of fix) false n room ≡ L.replied (given m.looked.answer) hs ts = sym (ap (L.replied_of n room) (m.found
    ∙ zones_beside_is_plain map atlas so m.opened (place_of fix) false n room ∙ onward m.opened _)) ∙ (λ i. L.replied (given m.looked.answer)
    (sym (b.hits ∙ ap (λ (ms : List Hit). padded n (words ms)) matches) i) (sym (b.text ∙ ap (padded room) text) i)) in record {
      zones = m.looked.answer;
      looked = looked;
      mark = m.mark;
      whole = whole_means_whole map (place_of fix) false n room m.looked.answer (ap (λ (x : L.Replied Zones). x.reply) looked) m.mark;
    }

pub slip_whole : (request map atlas zones : List ℕ) → NoneOrAtlas map atlas → (n room size : ℕ) (stamped : Stamped) (hs ts os : List ℕ)
    → replied (given stamped) hs ts os ≡ slipped request map atlas zones n room size → Meant request (λ fix. Whole fix map n room hs ts)
slip_whole request map atlas zones so n room size stamped hs ts os e = meant request map atlas zones n room size e (λ fix. slip_at_whole fix map atlas zones so n room size stamped hs ts os)

says_all : (fix : Fix) (map atlas zones : List ℕ) (n room size : ℕ) (slip : Slip) → given slip ≡ slip_at fix map atlas zones n room size
    → AllSay map zones fix slip.matches slip.stamped.offset slip.line
unfolding line_of
says_all fix map atlas zones n room size slip e =
    let m = made fix map atlas zones n room size e in
    let f = first m.hours m.agree in
    let says : AllSay map zones fix m.looked.matches m.hour.offset (line_of m.hour m.hours) = record {
      head = m.head;
      opened = sym m.opened;
      some = omega (arith, ap length f.are, hours_long map m.head zones fix.instant 1 m.looked.matches m.hours m.said);
      each = each_says map m.head zones fix.instant 1 m.looked.matches m.hours m.hour.offset m.said f.all;
      reading = m.hour.reading;
      shows = (first_hourly map m.head zones fix.instant m.looked.matches m.hours m.said f).1.shows;
      hours = m.hours;
      said = sym m.said;
      printed = refl;
    } in
    subst (λ (s : Slip). AllSay map zones fix s.matches s.stamped.offset s.line) (sym m.is) says

-- Where it is stamped there is a match, each one's zone has a TZif file in UNIX time with the printed offset; the line is the one civil reading and the zones of these matches, which the reply counts.
pub slip_at_agrees : (fix : Fix) (map atlas zones : List ℕ) (n room size : ℕ) (stamped : Stamped) (hs ts os : List ℕ) → replied (given stamped) hs ts os ≡ slipped_at fix map atlas zones n room size
    → Agreed fix map zones n size stamped hs os
unfolding slipped_at
slip_at_agrees fix map atlas zones n room size stamped hs ts os e = let b = behind n room size (slip_at fix map atlas zones n room size) stamped hs ts os e in
    let m = made fix map atlas zones n room size b.is in record {
      matches = b.slip.matches;
      hits = b.hits;
      counted =
          ap (λ (s : Stamped). s.matches) b.said ∙ ap (λ (s : Slip). s.stamped.matches) m.is
          ∙ hours_long map m.head zones fix.instant 1 m.looked.matches m.hours m.said ∙ sym (ap (λ (s : Slip). length s.matches) m.is);
      line = b.slip.line;
      out = b.out;
      long = ap (λ (s : Stamped). s.length) b.said ∙ ap (λ (s : Slip). s.stamped.length) m.is ∙ sym (ap (λ (s : Slip). length s.line) m.is);
      says = subst (λ (z : ℤ). AllSay map zones fix b.slip.matches z b.slip.line) (sym (ap (λ (s : Stamped). s.offset) b.said))
          (says_all fix map atlas zones n room size b.slip b.is);
    }

pub slip_agrees : (request map atlas zones : List ℕ) (n room size : ℕ) (stamped : Stamped) (hs ts os : List ℕ) → replied (given stamped) hs ts os ≡ slipped request map atlas zones n room size
    → Meant request (λ fix. Agreed fix map zones n size stamped hs os)
slip_agrees request map atlas zones n room size stamped hs ts os e = meant request map atlas zones n room size e (λ fix. slip_at_agrees fix map atlas zones n room size stamped hs ts os)

-- ---- read back
-- what a clock shows has room in its digits
shown_fits : {local : ℤ} {reading : Reading} → Shows local reading → Fitting reading
shown_fits {reading = reading} s = let months = s.date.months in record {
  year = s.date.range.to;
  month = omega (arith, months.month_to);
  day = omega (arith, months.day_to, month_short (is_leap reading.year) reading.month months.month_from months.month_to);
  hour = omega (arith, s.hour);
  minute = omega (arith, s.minute);
  second = omega (arith, s.second);
  weekday = omega (arith, s.weekday, weekday_closed (day_number reading.year reading.month reading.day));
}

-- the zones' text begins with a space
spaced : (hours : List Hour) → 0 < length hours → (rest : List ℕ) × (zones_from [] hours ≡ 32 ∷ rest)
unfolding zones_from added is_among between
spaced [] some = absurd (omega (arith, some))
spaced (hour ∷ hours) some = (zone_text hour ++ zones_from (hour ∷ []) hours, refl)

-- Where it is stamped, the printed bytes, read back as weekday, date, time and offset, are the one civil reading of instant and offset, and the offset.
pub slip_at_clock : (fix : Fix) (map atlas zones : List ℕ) (n room size : ℕ) (stamped : Stamped) (hs ts os : List ℕ) → replied (given stamped) hs ts os ≡ slipped_at fix map atlas zones n room size
    → Clocked fix stamped os
unfolding slipped_at
slip_at_clock fix map atlas zones n room size stamped hs ts os e = let b = behind n room size (slip_at fix map atlas zones n room size) stamped hs ts os e in
    let m = made fix map atlas zones n room size b.is in
    let f = first_hourly map m.head zones fix.instant m.looked.matches m.hours m.said (first m.hours m.agree) in
    let same : m.hour.offset ≡ stamped.offset = sym (ap (λ (s : Stamped). s.offset) b.said ∙ ap (λ (s : Slip). s.stamped.offset) m.is) in
    let a = slip_at_agrees fix map atlas zones n room size stamped hs ts os e in let says = a.says in
    let rest = spaced says.hours (omega (arith, says.some, hours_long map says.head zones fix.instant 1 a.matches says.hours (sym says.said))) in record {
      reading = says.reading;
      shows = says.shows;
      back =
          ap read_back (ap (take stamped.length) a.out ∙ take_at a.line (zeros (size - length a.line)) stamped.length (sym a.long) ∙ says.printed
          ∙ ap (λ (t : List ℕ). clock_text says.reading stamped.offset ++ t) rest.1)
          ∙ reads_back says.reading stamped.offset rest.0 (shown_fits says.shows) (subst (λ (z : ℤ). mag z < 2 ^ 31) same f.1.fits.sfits);
    }

pub slip_clock : (request map atlas zones : List ℕ) (n room size : ℕ) (stamped : Stamped) (hs ts os : List ℕ) → replied (given stamped) hs ts os ≡ slipped request map atlas zones n room size
    → Meant request (λ fix. Clocked fix stamped os)
slip_clock request map atlas zones n room size stamped hs ts os e = meant request map atlas zones n room size e (λ fix. slip_at_clock fix map atlas zones n room size stamped hs ts os)

-- ---- the numbers of a refusal
same_why : {why w : Refusal} → ◌≡◌ {A = Reply Stamped} (refused why) (refused w) → why ≡ w
same_why e = cc

refused_of : {P : ℕ → Type 0} (n room size : ℕ) (whole : Reply Slip) (why : Refusal) (hs ts os : List ℕ) → replied (refused why) hs ts os ≡ replied_of n room size whole → NumberedReply P whole
    → P why.number
unfolding replied_of
refused_of n room size (given slip) why hs ts os e h = let said = ap (λ (x : Replied). x.reply) e in let z : ◌≡◌ {A = ℕ} 0 1 = cc in absurd (omega arith)
refused_of n room size (refused w) why hs ts os e h = number_of_lem h (ap refused (sym (same_why (ap (λ (x : Replied). x.reply) e))))

-- Where it is not stamped, without an atlas or through one, the number is one of the map's, 1 to 18, of a zone file's, 40 to 61, or of the slip's own, 84 to 92;
pub slip_at_refusals : (fix : Fix) (map atlas zones : List ℕ) → NoneOrAtlas map atlas → (n room size : ℕ) (why : Refusal) (hs ts os : List ℕ)
    → replied (refused why) hs ts os ≡ slipped_at fix map atlas zones n room size → is_at_number why.number ≡ true
unfolding slipped_at
slip_at_refusals fix map atlas zones so n room size why hs ts os e = refused_of n room size (slip_at fix map atlas zones n room size) why hs ts os e (slip_at_told fix map atlas zones so n room size)

-- for a request from 80 on.
pub slip_refusals : (request map atlas zones : List ℕ) → NoneOrAtlas map atlas → (n room size : ℕ) (why : Refusal) (hs ts os : List ℕ)
    → replied (refused why) hs ts os ≡ slipped request map atlas zones n room size → is_slip_number why.number ≡ true
unfolding slipped
slip_refusals request map atlas zones so n room size why hs ts os e =
    refused_of n room size (slip_of request map atlas zones n room size) why hs ts os e (slip_told request map atlas zones so n room size)

-- With any words at all the number is one of these, or 36.
pub slip_at_beside_refusals : (fix : Fix) (map atlas zones : List ℕ) (n room size : ℕ) (why : Refusal) (hs ts os : List ℕ)
    → replied (refused why) hs ts os ≡ slipped_at fix map atlas zones n room size → (is_at_number why.number || eqb why.number 36) ≡ true
unfolding slipped_at
slip_at_beside_refusals fix map atlas zones n room size why hs ts os e =
    refused_of n room size (slip_at fix map atlas zones n room size) why hs ts os e (slip_at_beside_told fix map atlas zones n room size)

pub slip_beside_refusals : (request map atlas zones : List ℕ) (n room size : ℕ) (why : Refusal) (hs ts os : List ℕ)
    → replied (refused why) hs ts os ≡ slipped request map atlas zones n room size → (is_slip_number why.number || eqb why.number 36) ≡ true
unfolding slipped
slip_beside_refusals request map atlas zones n room size why hs ts os e =
    refused_of n room size (slip_of request map atlas zones n room size) why hs ts os e (slip_beside_told request map atlas zones n room size)

-- ---- the longest line
-- Where it is stamped, the line has at most 36 bytes and for each different zone 43 and its abbreviation: with one name 79 bytes and the abbreviation.
pub slip_at_short : (fix : Fix) (map atlas zones : List ℕ) (n room size : ℕ) (stamped : Stamped) (hs ts os : List ℕ) → replied (given stamped) hs ts os ≡ slipped_at fix map atlas zones n room size
    → Short fix map zones n stamped hs
unfolding slipped_at line_of
slip_at_short fix map atlas zones n room size stamped hs ts os e = let b = behind n room size (slip_at fix map atlas zones n room size) stamped hs ts os e in
    let m = made fix map atlas zones n room size b.is in let f = first m.hours m.agree in
    let h = (first_hourly map m.head zones fix.instant m.looked.matches m.hours m.said f).1 in
    let named = names_short map m.head zones fix.instant 1 m.looked.matches m.hours m.said in
    let clock = clock_short m.hour.reading m.hour.offset (shown_fits h.shows).weekday h.fits.sfits in
    let rest : length (zones_from [] m.hours) + 1 ≤ zones_most [] m.hours = subst (λ (hs : List Hour). length (zones_from [] hs) + 1 ≤ zones_most [] hs)
    (sym f.are) (zones_all m.hour f.rest (subst Named f.are named)) in
    let long : stamped.length ≡ length (line_of m.hour m.hours) = ap (λ (s : Stamped). s.length) b.said ∙ ap (λ (s : Slip). s.stamped.length) m.is in record {
      matches = m.looked.matches;
      hits = b.hits ∙ ap (λ (s : Slip). padded n (words s.matches)) m.is;
      head = m.head;
      opened = sym m.opened;
      hours = m.hours;
      said = sym m.said;
      short = omega (arith, long, length-append (clock_text m.hour.reading m.hour.offset) (zones_from [] m.hours), clock, rest);
    }

pub slip_short : (request map atlas zones : List ℕ) (n room size : ℕ) (stamped : Stamped) (hs ts os : List ℕ) → replied (given stamped) hs ts os ≡ slipped request map atlas zones n room size
    → Meant request (λ fix. Short fix map zones n stamped hs)
slip_short request map atlas zones n room size stamped hs ts os e = meant request map atlas zones n room size e (λ fix. slip_at_short fix map atlas zones n room size stamped hs ts os)
