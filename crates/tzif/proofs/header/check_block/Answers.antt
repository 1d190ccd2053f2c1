-- `tzif::header::check_block` meets its contract: its six parts, one after another.
use Rattle.numbers.proofs.Prelude.{rules}
use Rattle.tzif.proofs.{Laws.{past, stopped}}
use Rattle.tzif.specs.{Check.{check_leaps}, Header.{check_block}, Part.{check_part, count_of, check_of}}
use Rattle.tzif.proofs.header.check_block.Goals as goal

pub returns-in_err-first_fault : goal.returns-in_err-first_fault
unfolding check_block check_part count_of check_of check_leaps
returns-in_err-first_fault c =
    stopped (c.first_fault.ensures _ (λ i l r p. search rules)) _ c.in_err-first_fault.was c.from_residual.ensures.1 _

pub returns-in_err-first_fault-2 : goal.returns-in_err-first_fault-2
unfolding check_block check_part count_of check_of check_leaps
returns-in_err-first_fault-2 c =
    past (c.first_fault.ensures _ (λ i l r p. search rules)) c.in_ok-first_fault.was _
    (stopped (c.first_fault-2.ensures _ (λ i l r p. search rules)) _ c.in_err-first_fault-2.was c.from_residual-in_err-first_fault-2.ensures.1 _)

pub returns-in_err-first_fault-3 : goal.returns-in_err-first_fault-3
unfolding check_block check_part count_of check_of check_leaps
returns-in_err-first_fault-3 c =
    past (c.first_fault.ensures _ (λ i l r p. search rules)) c.in_ok-first_fault.was _
    (past (c.first_fault-2.ensures _ (λ i l r p. search rules)) c.in_ok-first_fault-2.was _
    (stopped (c.first_fault-3.ensures _ (λ i l r p. search rules)) _ c.in_err-first_fault-3.was c.from_residual-in_err-first_fault-3.ensures.1 _))

pub returns-in_err-first_fault-4 : goal.returns-in_err-first_fault-4
unfolding check_block check_part count_of check_of check_leaps
returns-in_err-first_fault-4 c =
    past (c.first_fault.ensures _ (λ i l r p. search rules)) c.in_ok-first_fault.was _
    (past (c.first_fault-2.ensures _ (λ i l r p. search rules)) c.in_ok-first_fault-2.was _
    (past (c.first_fault-3.ensures _ (λ i l r p. search rules)) c.in_ok-first_fault-3.was _
    (stopped (c.first_fault-4.ensures _ (λ i l r p. search rules)) _ c.in_err-first_fault-4.was c.from_residual-in_err-first_fault-4.ensures.1 _)))

pub returns-in_err-first_fault-5 : goal.returns-in_err-first_fault-5
unfolding check_block check_part count_of check_of check_leaps
returns-in_err-first_fault-5 c =
    past (c.first_fault.ensures _ (λ i l r p. search rules)) c.in_ok-first_fault.was _
    (past (c.first_fault-2.ensures _ (λ i l r p. search rules)) c.in_ok-first_fault-2.was _
    (past (c.first_fault-3.ensures _ (λ i l r p. search rules)) c.in_ok-first_fault-3.was _
    (past (c.first_fault-4.ensures _ (λ i l r p. search rules)) c.in_ok-first_fault-4.was _
    (stopped (c.first_fault-5.ensures _ (λ i l r p. search rules)) _ c.in_err-first_fault-5.was c.from_residual-in_err-first_fault-5.ensures.1 _))))

pub returns : goal.returns
unfolding check_block check_part count_of check_of check_leaps
returns c =
    past (c.first_fault.ensures _ (λ i l r p. search rules)) c.in_ok-first_fault.was _
    (past (c.first_fault-2.ensures _ (λ i l r p. search rules)) c.in_ok-first_fault-2.was _
    (past (c.first_fault-3.ensures _ (λ i l r p. search rules)) c.in_ok-first_fault-3.was _
    (past (c.first_fault-4.ensures _ (λ i l r p. search rules)) c.in_ok-first_fault-4.was _
    (past (c.first_fault-5.ensures _ (λ i l r p. search rules)) c.in_ok-first_fault-5.was _
    (c.first_fault-6.ensures _ (λ i l r p. search rules))))))
