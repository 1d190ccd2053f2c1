-- What the program writes, and its exit status, by name. Assumes nothing.
use Rattle.numbers.proofs.Prelude.{ℕ, List, [], ◌≡◌, sym, ap, ◌∙◌, arith}
use mathlib.Core.List.{flatten}
use Rattle.shell.proofs.Whole.{kept_lines, kept_worst, run_lines, exit_status}
use Rattle.shell.specs.{Run.{Run, Exit}, Written.{written, status_of}}

-- What is written is the lines of the input's requests, each that of its request, one after another, however many there are.
pub stamp_lines : (map zones : List ℕ) {pieces : List (List ℕ)} {bytes : List ℕ} → Run map zones pieces [] bytes → bytes ≡ written map zones (flatten pieces)
stamp_lines map zones {pieces} run = run_lines map zones run ∙ kept_lines map zones (flatten pieces)

-- However the same input is cut into pieces, the same is written.
pub same_lines : (map zones : List ℕ) {pieces pieces' : List (List ℕ)} {bytes bytes' : List ℕ} → Run map zones pieces [] bytes → Run map zones pieces' [] bytes' → flatten pieces ≡ flatten pieces'
    → bytes ≡ bytes'
same_lines map zones run run' e = stamp_lines map zones run ∙ ap (written map zones) e ∙ sym (stamp_lines map zones run')

-- Where nothing failed, the exit status is 0 if all requests of the input were stamped, else 1; another sentence counts for nothing.
pub stamp_status : (map zones : List ℕ) {pieces : List (List ℕ)} {answer : ℕ} → Exit map zones pieces [] 0 answer → answer ≡ status_of map zones (flatten pieces)
stamp_status map zones {pieces} exit = let e = exit_status map zones exit in let k = kept_worst map zones (flatten pieces) in omega (arith, e, k)

pub same_status : (map zones : List ℕ) {pieces pieces' : List (List ℕ)} {answer answer' : ℕ} → Exit map zones pieces [] 0 answer → Exit map zones pieces' [] 0 answer'
    → flatten pieces ≡ flatten pieces' → answer ≡ answer'
same_status map zones exit exit' e = stamp_status map zones exit ∙ ap (status_of map zones) e ∙ sym (stamp_status map zones exit')
