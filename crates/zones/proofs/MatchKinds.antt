-- Every match of a lookup has kind 1, 3 or 4: what is excluded is no match. Assumes nothing.
use Rattle.numbers.proofs.Prelude.{ℕ, zero, suc, ◌<◌, eqb, length, get_or, Bool, true, false, List, [], ◌∷◌, ◌≡◌, refl, sym, ap, subst, ◌∙◌, arith}
use Rattle.numbers.{proofs.Refusals.{Listed}, specs.{Answer.{if◌then◌else◌}, Reply.{given}}}
use Rattle.verdict.specs.{Verdict.{Judgement}, declared.step.Verdict.{Verdict, TheVariants.{NotInZone, InZone, InExcludedZone, OnBorderVertex, OnBorderSegment}}}
use Rattle.border.specs.declared.place.Point.{Point}
use Rattle.table.{proofs.{Merged.{Each, end, next, both, either, merged_each}, Words.{word_at}}, specs.{Ending.{hits_of, Through, here, outside, judged, Answered}, Hits.{no_hit, hit_at}}}
use Rattle.table.specs.{Merge.{Summary, summed, later, single, summary, differs, group_kind, merged_after, merged}, Rows.{Rows}, declared.{hits.Hit.{Hit}, location.Location.{Location}, rows.Row.{Row}}}
use Rattle.zones.specs.{Lookup.{looked_up}, Simple.{simply_looked}, declared.{lookup.Zones.{Zones}, simple.Described.{Described}}}
use Rattle.zones.proofs.HowItEnds.{lookup_ends, simple_lookup_ends}

-- the kinds of hits, of border verdicts, and of matches
data HitKind : ℕ → Type 0 where
  inside : HitKind 1
  excluded : HitKind 2
  vertex : HitKind 3
  segment : HitKind 4

data Bordering : ℕ → Type 0 where
  none : Bordering 0
  on_vertex : Bordering 3
  on_segment : Bordering 4

abbrev pub match_kinds : List ℕ
match_kinds = 1 ∷ 3 ∷ 4 ∷ []

-- a hit's kind
abbrev Hits : Hit → Type 0
Hits hit = HitKind hit.kind

abbrev Matches : Hit → Type 0
Matches hit = Listed match_kinds hit.kind

-- ---- the hits of a search
verdict_kind : (r : Row) (verdict : Verdict) → Each Hits (hits_of r verdict)
verdict_kind r NotInZone = end
verdict_kind r InZone = next inside end
verdict_kind r InExcludedZone = next excluded end
verdict_kind r OnBorderVertex = next vertex end
verdict_kind r OnBorderSegment = next segment end

through_kinds : {judge : ℕ → ℕ → Judgement} {fix : Point} {rows left : Rows} {least last : ℕ} {hits : List Hit} → Through judge fix rows least hits left last → Each Hits hits
through_kinds here = end
through_kinds (outside a h t) = through_kinds t
through_kinds (judged {r = r} {verdict = verdict} a h j t) = both (verdict_kind r verdict) (through_kinds t)

-- ---- the matches that they are merged to
single_border : {kind : ℕ} → HitKind kind → Bordering (single kind).border
single_border inside = none
single_border excluded = none
single_border vertex = on_vertex
single_border segment = on_segment

later_border : (first second : ℕ) → Bordering first → Bordering second → Bordering (later first second)
later_border first second h k = either Bordering (eqb second 0) (λ e. h) (λ e. k)

summary_border : (id : ℕ) {hits : List Hit} → Each Hits hits → Bordering (summary id hits).border
unfolding summary
summary_border id end = none
summary_border id (next {hit} {hits} h hs) =
    either (λ (s : Summary). Bordering s.border) (eqb hit.metadata id) (λ e. later_border (single hit.kind).border (summary id hits).border
    (single_border h) (summary_border id hs)) (λ e. summary_border id hs)

-- a group's kind is a match's, or 0
kind_of_group : (s : Summary) → Bordering s.border → eqb (group_kind s) 0 ≡ false → Listed match_kinds (group_kind s)
kind_of_group s h = by_border s.border h where
  by_balance : (test : Bool) → eqb (if test then 1 else 0) 0 ≡ false → Listed match_kinds (if test then 1 else 0)
  by_balance true e = refl
  by_balance false e = let z : ◌≡◌ {A = ℕ} 0 1 = cc in absurd (omega arith)

  by_border : (border : ℕ) → Bordering border → eqb (group_kind (summed s.balance border)) 0 ≡ false → Listed match_kinds (group_kind (summed s.balance border))
  by_border _ none e = by_balance (differs s.balance) e
  by_border _ on_vertex e = refl
  by_border _ on_segment e = refl

merged_kinds : {hits : List Hit} → Each Hits hits → Each Matches (merged_after [] hits)
merged_kinds = merged_each (λ hit hits h hs f. kind_of_group (summary hit.metadata (hit ∷ hits)) (summary_border hit.metadata (next h hs)) f) []

-- ---- in the lent words
each_at : {P : Hit → Type 0} (hits : List Hit) → Each P hits → (i : ℕ) → i < length hits → P (get_or hits i no_hit)
each_at [] end i h = absurd (omega arith)
each_at (hit ∷ hits) (next p ps) zero h = p
each_at (hit ∷ hits) (next p ps) (suc i) h = each_at hits ps i (omega arith)

pub answered_each : {P : Hit → Type 0} {file : List ℕ} {location : Location} {asked : Bool} {n matches mark : ℕ} {hits : List ℕ} (a : Answered file location asked n matches mark hits)
    → Each P a.list → (i : ℕ) → i < matches → P (hit_at hits i)
answered_each {P = P} {hits = hits} a each i h = let inside : i < length a.list = omega (arith, a.counted) in
    let is : hit_at hits i ≡ get_or a.list i no_hit = ap (λ (ws : List ℕ). hit_at ws i) a.kept ∙ word_at a.list _ i inside in
    subst P (sym is) (each_at a.list each i inside)

answered_kinds : {file : List ℕ} {location : Location} {asked : Bool} {n matches mark : ℕ} {hits : List ℕ} → Answered file location asked n matches mark hits
    → (i : ℕ) → i < matches → Listed match_kinds (hit_at hits i).kind
unfolding merged
answered_kinds a = answered_each {P = Matches} a (subst (Each Matches) (sym a.behind.merges) (merged_kinds (through_kinds a.behind.ending.through)))

-- Every match of an answered lookup has kind 1, 3 or 4,
pub match_kinds_lem : (file : List ℕ) (location : Location) (asked : Bool) (n room : ℕ) (zones : Zones) → (looked_up file location asked n room).reply ≡ given zones
    → (i : ℕ) → i < zones.matches → Listed match_kinds (hit_at (looked_up file location asked n room).hits i).kind
match_kinds_lem file location asked n room zones e = answered_kinds (lookup_ends file location asked n room zones e)

-- and every match of an answered simple lookup.
pub simple_match_kinds : (file : List ℕ) (location : Location) (n room : ℕ) (described : Described) → (simply_looked file location n room).reply ≡ given described
    → (i : ℕ) → i < described.matches → Listed match_kinds (hit_at (simply_looked file location n room).hits i).kind
simple_match_kinds file location n room described e = answered_kinds (simple_lookup_ends file location n room described e)
