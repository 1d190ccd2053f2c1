-- What a returned 0 means to firmware: the call was answered, whatever it was given. Each exported function's contract fixes what it returns,
-- the number said in `index_spoken`, `written_spoken`, `built_spoken` or `salvage_spoken`; here, that this number is 0 exactly where the definition gives an answer. Assumes nothing.
use Rattle.numbers.proofs.Prelude.{ℕ, ℤ, List, ◌↔◌, ◌≡◌, sym, ap, ◌∙◌, arith}
use Rattle.numbers.{proofs.Saying.{Answered, never_zero, zero_said}, specs.{Reply.{Reply, given, refused}, Spoken.{said_of, no_values}, declared.refusal.Refusal.{Refusal}}}
use Rattle.atlas.{proofs.Theorems.{else_36, building_refusals}, specs.Atlas.{atlas_made, is_atlas_of}}
use Rattle.build.{proofs.Numbered.{build_numbers, build_refusals}, specs.{Room.{room_of}, declared.room.Work.{Work}}}
use Rattle.builder.specs.{File.{built_of}, Yards.{Lent, plan_of}}
use Rattle.writer.{proofs.NumberedWriter.{writer_numbers, writer_refusals}, specs.{Writer.{border_of, fitted}, declared.write.Piece.{Piece}}}
use Rattle.index.{proofs.{Owned.{owning_numbers, is_index_refusals}, Refusing.{building_numbers, index_refusals}}, specs.{Index.{indexed_of}, Own.{is_index_of}}}
use Rattle.salvage.{proofs.rescue.NumberedSalvage.{salvage_numbers, salvage_refusals}, specs.Salvage.{salvaged}}
use Rattle.office.specs.{Built.{built_for, built_spoken}, Salvaged.{counts_values, salvage_spoken}, Written.{length_value, written_spoken, index_spoken}}
use Rattle.builder.specs.File as F

-- ---- for each exported function
-- `uskelzar_build_index`
pub build_index_zero : (file : List ℕ) (n : ℕ) → ((index_spoken (indexed_of file n)).said.number ≡ 0) ↔ Answered (indexed_of file n).reply
build_index_zero file n = zero_said length_value (indexed_of file n).reply (λ why is. never_zero building_numbers (λ z. z) why.number (index_refusals file n why is))

-- `uskelzar_is_index`
pub is_index_zero : (file words : List ℕ) → ((said_of no_values (is_index_of file words)).number ≡ 0) ↔ Answered (is_index_of file words)
is_index_zero file words = zero_said no_values (is_index_of file words) (λ why is. never_zero owning_numbers (λ z. z) why.number (is_index_refusals file words why is))

-- `uskelzar_build_atlas`
pub build_atlas_zero : (file : List ℕ) (n : ℕ) → ((index_spoken (atlas_made file n)).said.number ≡ 0) ↔ Answered (atlas_made file n).reply
build_atlas_zero file n = zero_said length_value (atlas_made file n).reply (λ why is. never_zero building_numbers (λ z. z) why.number (building_refusals file n why is))

-- `uskelzar_is_atlas`
pub is_atlas_zero : (file words : List ℕ) → ((said_of no_values (is_atlas_of file words)).number ≡ 0) ↔ Answered (is_atlas_of file words)
is_atlas_zero file words =
    zero_said no_values (is_atlas_of file words) (λ why is zero. let z : 36 ≡ 0 = sym (ap (λ (w : Refusal). w.number) (else_36 file words why is)) ∙ zero in omega (arith, z))

-- `uskelzar_salvage`
pub salvage_zero : (file : List ℕ) (words room : ℕ) → ((salvage_spoken (salvaged file words room)).said.number ≡ 0) ↔ Answered (salvaged file words room).reply
salvage_zero file words room =
    zero_said counts_values (salvaged file words room).reply (λ why is. never_zero salvage_numbers (λ z. z) why.number (salvage_refusals file words room why is))

-- `uskelzar_write_border`
pub write_border_zero : (room version : ℕ) (lats lons : List ℤ) (pieces : List Piece) (earlier : List ℕ)
    → ((written_spoken (fitted room (border_of version lats lons pieces earlier))).said.number ≡ 0) ↔ Answered (fitted room (border_of version lats lons pieces earlier)).reply
write_border_zero room version lats lons pieces earlier =
    zero_said length_value (fitted room (border_of version lats lons pieces earlier)).reply
    (λ why is. never_zero writer_numbers (λ z. z) why.number (writer_refusals room version lats lons pieces earlier why is))

-- `uskelzar_build`
fitted_refused : (file : ℕ) (built : Reply (List ℕ)) (why : Refusal) → (F.fitted file built).reply ≡ refused why → built ≡ refused why
unfolding F.fitted
fitted_refused file (given bytes) why e = let z : ◌≡◌ {A = ℕ} 0 1 = cc in absurd (omega arith)
fitted_refused file (refused because) why e = cc

pub build_zero : (lent : Lent) (work : Work) (file bytes : ℕ) → ((built_spoken (built_for lent work file bytes)).said.number ≡ 0) ↔ Answered (built_for lent work file bytes).reply
build_zero lent work file bytes =
    zero_said length_value (built_for lent work file bytes).reply (λ why is. never_zero build_numbers (λ z. z) why.number (build_refusals (plan_of lent)
    (room_of lent work file bytes) why (fitted_refused file (built_of (plan_of lent) (room_of lent work file bytes)) why is)))
