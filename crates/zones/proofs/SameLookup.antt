-- What the promises of both lookups fix: two replies that one permits are equal, with both lent buffers. Assumes nothing.
use Rattle.numbers.{proofs.Prelude.{ℕ, Bool, List, ◌≡◌, sym, ap, ◌∙◌}, specs.Reply.{Reply}}
use Rattle.zones.specs.{Lent.{Replied, replied}, Lookup.{looked_up, looked_strictly}, Simple.{simply_looked}, declared.{lookup.Zones.{Zones}, simple.Described.{Described}}}
use Rattle.table.specs.declared.location.Location.{Location}

one_reply : {A : Type 0} {whole : Replied A} (r r' : Reply A) (hs hs' ts ts' : List ℕ) → replied r hs ts ≡ whole → replied r' hs' ts' ≡ whole → (r ≡ r') × (hs ≡ hs') × (ts ≡ ts')
one_reply {A} r r' hs hs' ts ts' e e' = let same = e ∙ sym e' in (ap (λ (x : Replied A). x.reply) same, ap (λ (x : Replied A). x.hits) same, ap (λ (x : Replied A). x.text) same)

-- of every function that answers as lookup does
pub same_looked : {promised : Replied Zones} (r r' : Reply Zones) (hs hs' ts ts' : List ℕ) → replied r hs ts ≡ promised → replied r' hs' ts' ≡ promised
    → (r ≡ r') × (hs ≡ hs') × (ts ≡ ts')
same_looked = one_reply

pub same_lookup : (file : List ℕ) (location : Location) (asked : Bool) (n room : ℕ) (r r' : Reply Zones) (hs hs' ts ts' : List ℕ)
    → replied r hs ts ≡ looked_up file location asked n room → replied r' hs' ts' ≡ looked_up file location asked n room → (r ≡ r') × (hs ≡ hs') × (ts ≡ ts')
same_lookup file location asked n room = one_reply

pub same_simple_lookup : (file : List ℕ) (location : Location) (n room : ℕ) (r r' : Reply Described) (hs hs' ts ts' : List ℕ) → replied r hs ts ≡ simply_looked file location n room
    → replied r' hs' ts' ≡ simply_looked file location n room → (r ≡ r') × (hs ≡ hs') × (ts ≡ ts')
same_simple_lookup file location n room = one_reply

pub same_lookup_strict : (file : List ℕ) (location : Location) (asked : Bool) (n room : ℕ) (r r' : Reply Zones) (hs hs' ts ts' : List ℕ)
    → replied r hs ts ≡ looked_strictly file location asked n room → replied r' hs' ts' ≡ looked_strictly file location asked n room → (r ≡ r') × (hs ≡ hs') × (ts ≡ ts')
same_lookup_strict file location asked n room = one_reply
