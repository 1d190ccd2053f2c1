-- What the request promises, by name. Assumes nothing.
use Rattle.numbers.{proofs.{Prelude.{ℕ, List, ◌≡◌, refl, sym, ap, subst, ◌∙◌}, Refusals.{Listed}, Replies.{number_of_lem}}, specs.{Reply.{given}, declared.refusal.Refusal.{Refusal}}}
use lib.IntN.{+ℤ_idr}
use Rattle.calendar.specs.Civil.{CivilOf}
use Rattle.request.proofs.{Meanings.{Civilly, Ranged, spelt_meant}, Nearing.{nearest_to_is_nearest}, Refusing.{five_numbers, request_told}, Replied.{shown_from}, Times.{in_date, in_time}}
use Rattle.request.specs.{Clock.{Date, Time, utc, instant_at}, Nearest.{Nearest}, Only.{OnlyAt}, Request.{Spelt, spelt_of, meaning, request_of}, Text.{line_of}}
use Rattle.request.specs.declared.read.Fix.{Fix}
use Rattle.std.specs.Prelude.{Result, Ok, Err}

-- ---- same_request
-- two replies that the promise of `read_request` permits are equal
pub same_request : (text : List ℕ) (r s : Result Fix Refusal) → r ≡ request_of text → s ≡ request_of text → r ≡ s
same_request text r s p q = p ∙ sym q

-- ---- request_refusals
-- a request is refused with 80 to 84 alone
pub request_refusals : (text : List ℕ) {why : Refusal} → Err why ≡ request_of text → Listed five_numbers why.number
request_refusals text e = number_of_lem (request_told text) (sym e)

-- ---- request_instant
only_at : (date : Date) (time : Time) → Ranged date time → OnlyAt date time (instant_at (utc date time))
unfolding CivilOf instant_at
only_at date time r = let t = in_time time r.time_is in record {
  shown = record { date = in_date date r.date_is; hour = t.0; minute = t.1; second = t.2; weekday = refl; back = sym (+ℤ_idr _) };
  alone = λ other s. sym (s.back ∙ +ℤ_idr other);
}

-- the instant of a fix is the one whose civil reading in UTC is the date and time that the request spells
pub request_instant : (text : List ℕ) {fix : Fix} {spelt : Spelt} {date : Date} {time : Time} → Ok fix ≡ request_of text → given spelt ≡ spelt_of (line_of text)
    → spelt.when ≡ utc date time → OnlyAt date time fix.instant
unfolding request_of meaning Civilly
request_instant text {fix = fix} {spelt = spelt} {date = date} {time = time} e s w = let f = shown_from (spelt_of (line_of text)) meaning e in
    let same : spelt ≡ f.it = cc in
    let at : fix.instant ≡ instant_at (utc date time) = ap (λ (x : Fix). x.instant) f.shows ∙ ap (λ (x : Spelt). instant_at x.when) (sym same) ∙ ap instant_at w in
    let civil : Civilly (utc date time) = subst Civilly w (spelt_meant (line_of text) s).civil in subst (OnlyAt date time) (sym at) (only_at date time civil)

-- ---- request_nearest
-- the two floats of a fix are the f32 nearest to the fractions that the request spells, ties to even
pub request_nearest : (text : List ℕ) {fix : Fix} {spelt : Spelt} → Ok fix ≡ request_of text → given spelt ≡ spelt_of (line_of text)
    → Nearest spelt.lat fix.lat × Nearest spelt.lon fix.lon
unfolding request_of meaning
request_nearest text {fix = fix} {spelt = spelt} e s = let f = shown_from (spelt_of (line_of text)) meaning e in let same : spelt ≡ f.it = cc in
    let m = spelt_meant (line_of text) s in let is : fix ≡ meaning spelt = f.shows ∙ ap meaning (sym same) in (
      subst (λ (x : Fix). Nearest spelt.lat x.lat) (sym is) (nearest_to_is_nearest spelt.lat m.lat_fair.some m.lat_fair.small),
      subst (λ (x : Fix). Nearest spelt.lon x.lon) (sym is)
          (nearest_to_is_nearest spelt.lon m.lon_fair.some m.lon_fair.small),
    )
