-- What the promises fix: two replies that one permits are equal, with all lent words; of the lookups `same_looked` of crate zones says it. Assumes nothing.
use Rattle.numbers.{proofs.Prelude.{ℕ, List, ◌≡◌, sym, ap, ◌∙◌}, specs.Reply.{Reply}}
use Rattle.index.specs.Index.{Indexed, indexed}

pub same_built : {promised : Indexed} (r r' : Reply ℕ) (ws ws' : List ℕ) → indexed r ws ≡ promised → indexed r' ws' ≡ promised → (r ≡ r') × (ws ≡ ws')
same_built r r' ws ws' e e' = let same = e ∙ sym e' in (ap (λ (x : Indexed). x.reply) same, ap (λ (x : Indexed). x.words) same)

pub same_tie : {promised : Reply (Unit {0})} (r r' : Reply (Unit {0})) → r ≡ promised → r' ≡ promised → r ≡ r'
same_tie r r' e e' = e ∙ sym e'
