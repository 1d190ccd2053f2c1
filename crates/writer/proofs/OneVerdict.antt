-- Demand 3, "one border, one verdict": written as version 0, version 1, or version 1 with borrowed runs, a border reads back as the same points, so every location
-- gets the same verdict and distance. Assumes nothing.
use Rattle.numbers.proofs.Prelude.{ℕ, ℤ, pos, Bool, List, ◌≡◌}
use Rattle.verdict.specs.Verdict.{none, judge, judged_at}
use Rattle.border.{proofs.Delivered.{one_border_one_judgement}, specs.{Encoding.{encoded_in, encoding_of}, Written.{Stands}, declared.place.{FixedLat.{FixedLat}, FixedLon.{FixedLon}, Point.{Point}}}}
use Rattle.border.specs.declared.reader.Version.{Version}
use Rattle.writer.specs.WrittenAt.{WrittenAt}
use Rattle.writer.proofs.WrittenTrace.{written_stands}

-- One border stands in two files, in whatever way it was written. At every fixed latitude and longitude, with the distance asked for or not, and after every least
-- distance so far, `point_in_polygon` replies the same.
pub standing_border_one_verdict : {version version' : Version} {file file' : List ℕ} {base base' place place' : ℕ} {points : List Point}
    → Stands version file base place points → Stands version' file' base' place' points → (lat : FixedLat) (lon : FixedLon) (asked : Bool) (least : ℕ)
    → judged_at file (encoded_in version base) place lat lon asked least ≡ judged_at file' (encoded_in version' base') place' lat lon asked least
unfolding judged_at
standing_border_one_verdict h k lat lon asked least = one_border_one_judgement (judge (record { lat = lat; lon = lon }) asked none (record { winding = pos 0; least = least })) h k

-- So for every pair of accepted ways to write one border, at every fixed latitude and longitude, with the distance asked for or not, and after every least distance so
-- far, `point_in_polygon` replies the same: verdict and distance, failure or refusal.
pub one_border_one_verdict : {version version' : ℕ} {lats lons : List ℤ} {file file' : List ℕ} {base base' place place' : ℕ} → WrittenAt version lats lons file base place
    → WrittenAt version' lats lons file' base' place' → (lat : FixedLat) (lon : FixedLon) (asked : Bool) (least : ℕ)
    → judged_at file (encoding_of version base) place lat lon asked least ≡ judged_at file' (encoding_of version' base') place' lat lon asked least
one_border_one_verdict h k = standing_border_one_verdict (written_stands h) (written_stands k)
