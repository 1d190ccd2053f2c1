-- Files with a TZ string, and one with leap seconds, computed: what the theorems speak of is met. Assumes nothing.
use Rattle.numbers.proofs.Prelude.{ℕ, ◌+◌, ◌-◌, ◌*◌, ◌%◌, ◌^◌, lt-ltb, pos, negsuc, true, false, List, [], ◌∷◌, ◌≡◌, refl, sym, ap, ◌∙◌, arith}
use Rattle.calendar.{proofs.Laws.{days_closed, weekday_closed}, specs.{Calendar.{is_leap, month_length, days_of_years, days_of_months, weekday_of}, Rules.{last_on, first_of, weeks_of, day_of, IsMonth, IsWhen}}}
use Rattle.calendar.specs.declared.rule.When.TheVariants.{Month}
use Rattle.std.specs.Prelude.{Some}
use Rattle.localtime.proofs.Theorems.{throughout_by_string, after_last_by_string}
use Rattle.localtime.specs.Found.{east_of, found_of, same_octets, same_found}
use Rattle.localtime.specs.Local.{ask_in, same_as, agrees, or_sixty, string_in, rules_in, is_ruled, by_rule, answer_by, answer_at, local_time_by, local_time, scale_in, scale_or, scale_by, scale_at}
use Rattle.tzif.{proofs.Signs.{all_octets, octets_of}, specs.Check.{occurs_later, correction_before, correction_at, correction_of, one_apart, is_expiry, nul_end, check_time, check_index, check_type, check_leap}}
use Rattle.tzif.specs.{Check.{check_leaps, check_standard, is_standard, check_ut}, Header.{begins, is_version, is_fourth, version_fits, check_header, block_at, none_or_all, check_counts, check_block, read_block}}
use Rattle.tzif.specs.{Last.{transition_time}, Local.{type_in, type_behind, is_after_last, by_table, replied, named, lent}, Number.{octets, be32, raised, time_at, signed_at, lift}, Part.{count_of, check_of}}
use Rattle.tzif.specs.{Part.{check_part}, Reply.{given, demand, each, ◌>>=◌, ◌>>◌}, Text.{first_with, is_stop, run_to}, Times.{time_in, last_with, last_not_after}, Zone.{newline_at, read_footer, read_short}}
use Rattle.tzif.specs.{Zone.{read_long, read_zone_by, read_zone}, declared.zone.Zone.{Zone}}
use Rattle.tzrule.{proofs.{Latest.{summer_latest}, SummerAt.{summer_some, says_is}}, specs.{Answer.{onward}, Ask.{corrected, in_years, since, clock_at, ask}}}
use Rattle.tzrule.specs.{Names.{is_letter, in_name, name_end, bare_of, name_of}, String.{hours_of, time_of, change_of, clock_of, summer_of, changing_of, string_of}}
use Rattle.tzrule.specs.{Summer.{start_of, close_of, is_summer, Says, IsRule}, Text.{byte_at, is_digit, digits_of}, declared.{ask.Time.{Time}, rule.{Rule.{Rule}, Tz.TheVariants.{Fixed, Changing}}}}
use Rattle.tzrule.specs.Grammar as G
use Rattle.tzrule.specs.Names as N
use Rattle.tzrule.specs.Summer as summer

-- RFC 8536, appendix B.1: UTC with 27 leap seconds, version 1
abbrev utc : List ℕ
utc =
    84 ∷ 90 ∷ 105 ∷ 102 ∷ 0 ∷ 0 ∷ 0 ∷ 0 ∷ 0 ∷ 0 ∷ 0 ∷ 0 ∷ 0 ∷ 0 ∷ 0 ∷ 0 ∷ 0 ∷ 0 ∷ 0 ∷ 0 ∷ 0 ∷ 0 ∷ 0 ∷ 1 ∷ 0 ∷ 0 ∷ 0 ∷ 1 ∷ 0 ∷ 0 ∷ 0 ∷ 27 ∷ 0 ∷ 0 ∷ 0 ∷ 0 ∷ 0 ∷ 0 ∷ 0 ∷ 1 ∷
    0 ∷ 0 ∷ 0 ∷ 4 ∷ 0 ∷ 0 ∷ 0 ∷ 0 ∷ 0 ∷ 0 ∷ 85 ∷ 84 ∷ 67 ∷ 0 ∷ 4 ∷ 178 ∷ 88 ∷ 0 ∷ 0 ∷ 0 ∷ 0 ∷ 1 ∷ 5 ∷ 164 ∷ 236 ∷ 1 ∷ 0 ∷ 0 ∷ 0 ∷ 2 ∷ 7 ∷ 134 ∷ 31 ∷ 130 ∷ 0 ∷ 0 ∷ 0 ∷ 3 ∷ 9 ∷ 103 ∷
    83 ∷ 3 ∷ 0 ∷ 0 ∷ 0 ∷ 4 ∷ 11 ∷ 72 ∷ 134 ∷ 132 ∷ 0 ∷ 0 ∷ 0 ∷ 5 ∷ 13 ∷ 43 ∷ 11 ∷ 133 ∷ 0 ∷ 0 ∷ 0 ∷ 6 ∷ 15 ∷ 12 ∷ 63 ∷ 6 ∷ 0 ∷ 0 ∷ 0 ∷ 7 ∷ 16 ∷ 237 ∷ 114 ∷ 135 ∷ 0 ∷ 0 ∷ 0 ∷ 8 ∷ 18 ∷ 206 ∷
    166 ∷ 8 ∷ 0 ∷ 0 ∷ 0 ∷ 9 ∷ 21 ∷ 159 ∷ 202 ∷ 137 ∷ 0 ∷ 0 ∷ 0 ∷ 10 ∷ 23 ∷ 128 ∷ 254 ∷ 10 ∷ 0 ∷ 0 ∷ 0 ∷ 11 ∷ 25 ∷ 98 ∷ 49 ∷ 139 ∷ 0 ∷ 0 ∷ 0 ∷ 12 ∷ 29 ∷ 37 ∷ 234 ∷ 12 ∷ 0 ∷ 0 ∷ 0 ∷ 13 ∷ 33 ∷ 218 ∷
    229 ∷ 13 ∷ 0 ∷ 0 ∷ 0 ∷ 14 ∷ 37 ∷ 158 ∷ 157 ∷ 142 ∷ 0 ∷ 0 ∷ 0 ∷ 15 ∷ 39 ∷ 127 ∷ 209 ∷ 15 ∷ 0 ∷ 0 ∷ 0 ∷ 16 ∷ 42 ∷ 80 ∷ 245 ∷ 144 ∷ 0 ∷ 0 ∷ 0 ∷ 17 ∷ 44 ∷ 50 ∷ 41 ∷ 17 ∷ 0 ∷ 0 ∷ 0 ∷ 18 ∷ 46 ∷ 19 ∷
    92 ∷ 146 ∷ 0 ∷ 0 ∷ 0 ∷ 19 ∷ 48 ∷ 231 ∷ 36 ∷ 19 ∷ 0 ∷ 0 ∷ 0 ∷ 20 ∷ 51 ∷ 184 ∷ 72 ∷ 148 ∷ 0 ∷ 0 ∷ 0 ∷ 21 ∷ 54 ∷ 140 ∷ 16 ∷ 21 ∷ 0 ∷ 0 ∷ 0 ∷ 22 ∷ 67 ∷ 183 ∷ 27 ∷ 150 ∷ 0 ∷ 0 ∷ 0 ∷ 23 ∷ 73 ∷ 92 ∷
    7 ∷ 151 ∷ 0 ∷ 0 ∷ 0 ∷ 24 ∷ 79 ∷ 239 ∷ 147 ∷ 24 ∷ 0 ∷ 0 ∷ 0 ∷ 25 ∷ 85 ∷ 147 ∷ 45 ∷ 153 ∷ 0 ∷ 0 ∷ 0 ∷ 26 ∷ 88 ∷ 104 ∷ 70 ∷ 154 ∷ 0 ∷ 0 ∷ 0 ∷ 27 ∷ 0 ∷ 0 ∷ []

-- RFC 8536, appendix B.2: Pacific/Honolulu, whose string is `HST10`
abbrev honolulu : List ℕ
honolulu =
    84 ∷ 90 ∷ 105 ∷ 102 ∷ 50 ∷ 0 ∷ 0 ∷ 0 ∷ 0 ∷ 0 ∷ 0 ∷ 0 ∷ 0 ∷ 0 ∷ 0 ∷ 0 ∷ 0 ∷ 0 ∷ 0 ∷ 0 ∷ 0 ∷ 0 ∷ 0 ∷ 6 ∷ 0 ∷ 0 ∷ 0 ∷ 6 ∷ 0 ∷ 0 ∷ 0 ∷ 0 ∷ 0 ∷ 0 ∷ 0 ∷ 7 ∷ 0
    ∷ 0 ∷ 0 ∷ 6 ∷ 0 ∷ 0 ∷ 0 ∷ 20 ∷ 128 ∷ 0 ∷ 0 ∷ 0 ∷ 187 ∷ 5 ∷ 67 ∷ 72 ∷ 187 ∷ 33 ∷ 113 ∷ 88 ∷ 203 ∷ 137 ∷ 61 ∷ 200 ∷ 210 ∷ 35 ∷ 244 ∷ 112 ∷ 210 ∷ 97 ∷ 73 ∷ 56
    ∷ 213 ∷ 141 ∷ 115 ∷ 72 ∷ 1 ∷ 2 ∷ 1 ∷ 3 ∷ 4 ∷ 1 ∷ 5 ∷ 255 ∷ 255 ∷ 108 ∷ 2 ∷ 0 ∷ 0 ∷ 255 ∷ 255 ∷ 108 ∷ 88 ∷ 0 ∷ 4 ∷ 255 ∷ 255 ∷ 122 ∷ 104 ∷ 1 ∷ 8 ∷ 255 ∷ 255
    ∷ 122 ∷ 104 ∷ 1 ∷ 12 ∷ 255 ∷ 255 ∷ 122 ∷ 104 ∷ 1 ∷ 16 ∷ 255 ∷ 255 ∷ 115 ∷ 96 ∷ 0 ∷ 4 ∷ 76 ∷ 77 ∷ 84 ∷ 0 ∷ 72 ∷ 83 ∷ 84 ∷ 0 ∷ 72 ∷ 68 ∷ 84 ∷ 0 ∷ 72 ∷ 87
    ∷ 84 ∷ 0 ∷ 72 ∷ 80 ∷ 84 ∷ 0 ∷ 0 ∷ 0 ∷ 0 ∷ 0 ∷ 1 ∷ 0 ∷ 0 ∷ 0 ∷ 0 ∷ 0 ∷ 1 ∷ 0 ∷ 84 ∷ 90 ∷ 105 ∷ 102 ∷ 50 ∷ 0 ∷ 0 ∷ 0 ∷ 0 ∷ 0 ∷ 0 ∷ 0 ∷ 0 ∷ 0 ∷ 0 ∷ 0 ∷ 0 ∷ 0
    ∷ 0 ∷ 0 ∷ 0 ∷ 0 ∷ 0 ∷ 6 ∷ 0 ∷ 0 ∷ 0 ∷ 6 ∷ 0 ∷ 0 ∷ 0 ∷ 0 ∷ 0 ∷ 0 ∷ 0 ∷ 7 ∷ 0 ∷ 0 ∷ 0 ∷ 6 ∷ 0 ∷ 0 ∷ 0 ∷ 20 ∷ 255 ∷ 255 ∷ 255 ∷ 255 ∷ 116 ∷ 224 ∷ 112 ∷ 190
    ∷ 255 ∷ 255 ∷ 255 ∷ 255 ∷ 187 ∷ 5 ∷ 67 ∷ 72 ∷ 255 ∷ 255 ∷ 255 ∷ 255 ∷ 187 ∷ 33 ∷ 113 ∷ 88 ∷ 255 ∷ 255 ∷ 255 ∷ 255 ∷ 203 ∷ 137 ∷ 61 ∷ 200 ∷ 255 ∷ 255 ∷ 255
    ∷ 255 ∷ 210 ∷ 35 ∷ 244 ∷ 112 ∷ 255 ∷ 255 ∷ 255 ∷ 255 ∷ 210 ∷ 97 ∷ 73 ∷ 56 ∷ 255 ∷ 255 ∷ 255 ∷ 255 ∷ 213 ∷ 141 ∷ 115 ∷ 72 ∷ 1 ∷ 2 ∷ 1 ∷ 3 ∷ 4 ∷ 1 ∷ 5 ∷ 255
    ∷ 255 ∷ 108 ∷ 2 ∷ 0 ∷ 0 ∷ 255 ∷ 255 ∷ 108 ∷ 88 ∷ 0 ∷ 4 ∷ 255 ∷ 255 ∷ 122 ∷ 104 ∷ 1 ∷ 8 ∷ 255 ∷ 255 ∷ 122 ∷ 104 ∷ 1 ∷ 12 ∷ 255 ∷ 255 ∷ 122 ∷ 104 ∷ 1 ∷ 16
    ∷ 255 ∷ 255 ∷ 115 ∷ 96 ∷ 0 ∷ 4 ∷ 76 ∷ 77 ∷ 84 ∷ 0 ∷ 72 ∷ 83 ∷ 84 ∷ 0 ∷ 72 ∷ 68 ∷ 84 ∷ 0 ∷ 72 ∷ 87 ∷ 84 ∷ 0 ∷ 72 ∷ 80 ∷ 84 ∷ 0 ∷ 0 ∷ 0 ∷ 0 ∷ 0 ∷ 1 ∷ 0 ∷ 0
    ∷ 0 ∷ 0 ∷ 0 ∷ 1 ∷ 0 ∷ 10 ∷ 72 ∷ 83 ∷ 84 ∷ 49 ∷ 48 ∷ 10 ∷ []

-- the first is on its own scale, 27 seconds on in 2026, and 1 on the second after the first leap second; the second is on UNIX time's,
-- and after its last transition, of 1947, its string says HST, ten hours west
pub record Worked : Type 0 where
  pub leaping : scale_at utc (pos 1782907199) ≡ record { kind = 2; correction = 27 }
  pub first : scale_at utc (pos 78796800) ≡ record { kind = 2; correction = 1 }
  pub before : scale_at utc (pos 78796799) ≡ record { kind = 2; correction = 0 }
  pub plain : scale_at honolulu (pos 1782907199) ≡ record { kind = 1; correction = 0 }
  pub after : local_time honolulu (pos 1782907199) 3 ≡ replied (given (Some (record { offset = negsuc 35999; daylight = 0; length = 3 }))) (72 ∷ 83 ∷ 84 ∷ [])
  pub listed : local_time honolulu (negsuc 769395600) 3 ≡ replied (given (Some (record { offset = negsuc 34199; daylight = 1; length = 3 }))) (72 ∷ 87 ∷ 84 ∷ [])

pub worked : Worked
unfolding occurs_later correction_before correction_at correction_of one_apart is_expiry nul_end check_time check_index check_type check_leap check_leaps check_standard
    is_standard check_ut begins is_version is_fourth version_fits check_header block_at none_or_all check_counts check_block read_block octets be32 raised time_at lift
    count_of check_of check_part demand each ◌>>=◌ ◌>>◌ first_with is_stop run_to time_in last_with last_not_after newline_at read_footer read_short read_long read_zone_by
    scale_by scale_or scale_in rules_in string_in or_sixty agrees string_of clock_of changing_of change_of time_of hours_of summer_of G.ranged G.number_of G.seconds_of
    G.minutes_of G.clock_of G.later_of G.earlier_of G.signed_of G.dotted_of G.weekday_from G.week_from G.month_from G.date_of is_letter in_name name_end N.end_of bare_of
    name_of byte_at is_digit digits_of onward same_as ask_in local_time_by answer_at answer_by is_ruled by_rule lent type_in type_behind is_after_last by_table east_of found_of
    same_octets same_found corrected in_years clock_at ask
worked = record { leaping = refl; first = refl; before = refl; plain = refl; after = refl; listed = refl }

-- ---- a southern rule: Australia/Sydney's, in a file without transitions
abbrev sydney : List ℕ
sydney =
    84 ∷ 90 ∷ 105 ∷ 102 ∷ 50 ∷ 0 ∷ 0 ∷ 0 ∷ 0 ∷ 0 ∷ 0 ∷ 0 ∷ 0 ∷ 0 ∷ 0 ∷ 0 ∷ 0 ∷ 0 ∷ 0 ∷ 0 ∷ 0 ∷ 0 ∷ 0 ∷ 0 ∷ 0 ∷ 0 ∷ 0 ∷ 0 ∷ 0 ∷ 0 ∷ 0 ∷ 0 ∷ 0 ∷ 0 ∷ 0 ∷ 0 ∷ 0 ∷ 0 ∷ 0 ∷ 1 ∷
    0 ∷ 0 ∷ 0 ∷ 1 ∷ 0 ∷ 0 ∷ 0 ∷ 0 ∷ 0 ∷ 0 ∷ 0 ∷ 84 ∷ 90 ∷ 105 ∷ 102 ∷ 50 ∷ 0 ∷ 0 ∷ 0 ∷ 0 ∷ 0 ∷ 0 ∷ 0 ∷ 0 ∷ 0 ∷ 0 ∷ 0 ∷ 0 ∷ 0 ∷ 0 ∷ 0 ∷ 0 ∷ 0 ∷ 0 ∷ 0 ∷ 0 ∷ 0 ∷ 0 ∷ 0 ∷ 0 ∷
    0 ∷ 0 ∷ 0 ∷ 0 ∷ 0 ∷ 0 ∷ 0 ∷ 0 ∷ 0 ∷ 0 ∷ 1 ∷ 0 ∷ 0 ∷ 0 ∷ 5 ∷ 0 ∷ 0 ∷ 140 ∷ 160 ∷ 0 ∷ 0 ∷ 65 ∷ 69 ∷ 83 ∷ 84 ∷ 0 ∷ 10 ∷ 65 ∷ 69 ∷ 83 ∷ 84 ∷ 45 ∷ 49 ∷ 48 ∷ 65 ∷ 69 ∷ 68 ∷ 84 ∷ 44 ∷ 77 ∷
    49 ∷ 48 ∷ 46 ∷ 49 ∷ 46 ∷ 48 ∷ 44 ∷ 77 ∷ 52 ∷ 46 ∷ 49 ∷ 46 ∷ 48 ∷ 47 ∷ 51 ∷ 10 ∷ []

-- summer time from the first Sunday of October to the first of April
abbrev rule : Rule
rule = record {
  standard = record { name = record { start = 107; end = 111 }; west = 568800 };
  daylight = record { name = record { start = 114; end = 118 }; west = 565200 };
  start = record { when = Month 10 1 0; time = 612000 };
  end = record { when = Month 4 1 0; time = 615600 };
}

good : IsRule rule
unfolding IsWhen
good =
    let month : IsMonth 10 1 0 = record { month_from = omega arith; month_to = omega arith; week_from = omega arith; week_to = omega arith; weekday_to = omega arith } in
    let month' : IsMonth 4 1 0 = record { month_from = omega arith; month_to = omega arith; week_from = omega arith; week_to = omega arith; weekday_to = omega arith } in
    record { standard = omega arith; daylight = omega arith; start = record { when = month; time = omega arith }; end = record { when = month'; time = omega arith } }

-- the first Sunday of a month of the years 2025 and 2026, told by 2424 and 2425
sunday : (past month : ℕ) {week day : ℕ} → first_of past month + weeks_of past month 1 - 1 ≡ week → week - (((week + 1) % 7) + 7 - 0) % 7 ≡ day → day_of (Month month 1 0) past ≡ day
unfolding day_of last_on
sunday past month {week} e d = ap (λ (n : ℕ). n - (weekday_of n + 7 - 0) % 7) e ∙ ap (λ (n : ℕ). week - (n + 7 - 0) % 7) (weekday_closed week) ∙ d

-- the days of its months before April and before October, in years that are no leap years
record Before (past : ℕ) : Type 0 where
  april : first_of past 4 + weeks_of past 4 1 - 1 ≡ days_of_years past + 90 + 7 - 1
  october : first_of past 10 + weeks_of past 10 1 - 1 ≡ days_of_years past + 273 + 7 - 1

before25 : Before 2424
unfolding first_of weeks_of days_of_months month_length is_leap
before25 = record { april = refl; october = refl }

before26 : Before 2425
unfolding first_of weeks_of days_of_months month_length is_leap
before26 = record { april = refl; october = refl }

start25 : start_of rule 2424 ≡ 76519180800
unfolding start_of summer.change_of
start25 = ap (λ (d : ℕ). 86400 * d + 612000 + 568800) (sunday 2424 10 (before25.october ∙ ap (λ (d : ℕ). d + 273 + 7 - 1) (days_closed 2424)) refl)

start26 : start_of rule 2425 ≡ 76550630400
unfolding start_of summer.change_of
start26 = ap (λ (d : ℕ). 86400 * d + 612000 + 568800) (sunday 2425 10 (before26.october ∙ ap (λ (d : ℕ). d + 273 + 7 - 1) (days_closed 2425)) refl)

end25 : summer.end_of rule 2424 ≡ 76503456000
unfolding summer.end_of summer.change_of
end25 = ap (λ (d : ℕ). 86400 * d + 615600 + 565200) (sunday 2424 4 (before25.april ∙ ap (λ (d : ℕ). d + 90 + 7 - 1) (days_closed 2424)) refl)

end26 : summer.end_of rule 2425 ≡ 76534905600
unfolding summer.end_of summer.change_of
end26 = ap (λ (d : ℕ). 86400 * d + 615600 + 565200) (sunday 2425 4 (before26.april ∙ ap (λ (d : ℕ). d + 90 + 7 - 1) (days_closed 2425)) refl)

-- the summer that began in October 2025 closes in April 2026
close25 : close_of rule 2424 ≡ 76534905600
unfolding close_of
close25 = simp (lt-ltb (summer.end_of rule 2424) (start_of rule 2424) (omega (arith, start25, end25))) end26

-- 15 January 2026, 00:00 UT
in_summer : is_summer rule 76528022400 ≡ true
in_summer = (summer_some rule 76528022400 good).1 (record { year = 2424; inside = record { from = omega (arith, start25); to = omega (arith, close25) } })

-- 1 July 2026, 00:00 UT
in_winter : is_summer rule 76542451200 ≡ false
unfolding Says
in_winter =
    sym (says_is rule 76542451200 good false (λ s. omega (arith, (summer_latest rule good 2424 76542451200 (omega (arith, start25)) (omega (arith, start26))).0 s, close25)))

-- what the file says then
pub record WorkedSouth : Type 0 where
  pub january : local_time sydney (pos 1768435200) 4 ≡ replied (given (Some (record { offset = pos 39600; daylight = 1; length = 4 }))) (65 ∷ 69 ∷ 68 ∷ 84 ∷ [])
  pub july : local_time sydney (pos 1782864000) 4 ≡ replied (given (Some (record { offset = pos 36000; daylight = 0; length = 4 }))) (65 ∷ 69 ∷ 83 ∷ 84 ∷ [])

-- its zone, and the rule that its string means
abbrev zone : Zone
zone = record {
  version = 50;
  block = record { width = 8; isutcnt = 0; isstdcnt = 0; leapcnt = 0; timecnt = 0; typecnt = 1; charcnt = 5; begin = 95 };
  string = 107;
  size = 28;
}

is_read : read_zone sydney ≡ given zone
unfolding occurs_later correction_before correction_at correction_of one_apart is_expiry nul_end check_time check_index check_type check_leap check_leaps check_standard
    is_standard check_ut begins is_version is_fourth version_fits check_header block_at none_or_all check_counts check_block read_block octets be32 raised time_at lift
    count_of check_of check_part demand each ◌>>=◌ ◌>>◌ first_with is_stop run_to time_in last_with last_not_after newline_at read_footer read_short read_long read_zone_by
is_read = refl

tz_is_ruled : rules_in sydney zone ≡ given (Some (Changing rule))
unfolding rules_in string_in or_sixty agrees string_of clock_of changing_of change_of time_of hours_of summer_of G.ranged G.number_of G.seconds_of G.minutes_of G.clock_of
    G.later_of G.earlier_of G.signed_of G.dotted_of G.weekday_from G.week_from G.month_from G.date_of is_letter in_name name_end N.end_of bare_of name_of byte_at is_digit
    digits_of onward demand ◌>>=◌ ◌>>◌
tz_is_ruled = refl

summer_clock : clock_at (Changing rule) (2 ^ 63 + 1768435200) ≡ record { clock = rule.daylight; daylight = 1 }
unfolding clock_at since
summer_clock = simp in_summer

winter_clock : clock_at (Changing rule) (2 ^ 63 + 1782864000) ≡ record { clock = rule.standard; daylight = 0 }
unfolding clock_at since
winter_clock = simp in_winter

pub worked_south : WorkedSouth
unfolding corrected correction_at correction_before last_not_after last_with lift in_years found_of east_of
worked_south = record {
  january = throughout_by_string sydney (pos 1768435200) 4 is_read tz_is_ruled refl refl ∙ ap (λ (t : Time). named sydney 4 (found_of t)) summer_clock;
  july = throughout_by_string sydney (pos 1782864000) 4 is_read tz_is_ruled refl refl ∙ ap (λ (t : Time). named sydney 4 (found_of t)) winter_clock;
}

-- what `after_last_by_string` asks is met by Honolulu
abbrev island : Zone
island = record {
  version = 50;
  block = record { width = 8; isutcnt = 6; isstdcnt = 6; leapcnt = 0; timecnt = 7; typecnt = 6; charcnt = 20; begin = 191 };
  string = 323;
  size = 5;
}

island_read : read_zone honolulu ≡ given island
unfolding occurs_later correction_before correction_at correction_of one_apart is_expiry nul_end check_time check_index check_type check_leap check_leaps check_standard
    is_standard check_ut begins is_version is_fourth version_fits check_header block_at none_or_all check_counts check_block read_block octets be32 raised time_at lift
    count_of check_of check_part demand each ◌>>=◌ ◌>>◌ first_with is_stop run_to time_in last_with last_not_after newline_at read_footer read_short read_long read_zone_by
island_read = refl

island_ruled : rules_in honolulu island ≡ given (Some (Fixed (record { name = record { start = 323; end = 326 }; west = 640800 })))
unfolding rules_in string_in or_sixty agrees string_of clock_of changing_of change_of time_of hours_of summer_of G.ranged G.number_of G.seconds_of G.minutes_of G.clock_of
    G.later_of G.earlier_of G.signed_of G.dotted_of G.weekday_from G.week_from G.month_from G.date_of is_letter in_name name_end N.end_of bare_of name_of byte_at is_digit
    digits_of onward same_as ask_in type_in type_behind east_of found_of same_octets same_found corrected correction_at correction_before last_not_after last_with time_in
    time_at be32 raised first_with is_stop run_to in_years clock_at ask demand ◌>>=◌ ◌>>◌
island_ruled = refl

pub after_last_met : local_time honolulu (pos 1782907199) 3 ≡ named honolulu 3 (record { offset = negsuc 35999; daylight = 0; place = 323; length = 3 })
unfolding all_octets transition_time signed_at be32 corrected correction_at correction_before last_not_after last_with lift in_years clock_at found_of east_of
after_last_met = after_last_by_string honolulu (pos 1782907199) 3 island_read island_ruled (octets_of honolulu refl) (record { sfits = omega arith }) (omega arith) refl refl
