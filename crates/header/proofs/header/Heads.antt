-- The header by how far it was read. Assumes nothing.
use Rattle.numbers.proofs.Prelude.{ℕ, Bool, List, ◌≡◌, ap, ◌∙◌}
use Rattle.numbers.{proofs.Replies.{From, carried, onward, given_from, refused_from}, specs.{Reply.{Reply, given, refused, ◌>>=◌}, declared.refusal.Refusal.{Refusal}}}
use Rattle.header.specs.{Header.{texts_of, place_after, preamble_of, sections_at, Contents, contents_by, head_by}, declared.header.{Preamble.{Preamble}, Sections.{Sections}}}

module _ (strict : Bool) (file : List ℕ) where
  -- the head alone
  so : {contents : Reply Contents} → contents ≡ contents_by strict file → (contents >>= λ c. given c.head) ≡ head_by strict file
  unfolding head_by
  so e = ap (λ (r : Reply Contents). r >>= λ c. given c.head) e

  pub no_preamble : (why : Refusal) → refused why ≡ preamble_of file → refused why ≡ head_by strict file
  unfolding contents_by
  no_preamble why e = so (carried e _)

  module _ (preamble : Preamble) (p : given preamble ≡ preamble_of file) where
    pub no_texts : (why : Refusal) → refused why ≡ place_after strict file preamble.count → refused why ≡ head_by strict file
    unfolding contents_by
    no_texts why e = so (carried (refused_from (texts_of strict file preamble.count) (λ t. t.place) e) _ ∙ onward p _)

    module _ (place : ℕ) (t : given place ≡ place_after strict file preamble.count) where
      texts : From (texts_of strict file preamble.count) (λ t. given t.place) place
      texts = given_from (texts_of strict file preamble.count) _ t

      there : {A : Type 0} {x : Reply A} (next : ℕ → Reply A) → x ≡ next place → x ≡ next texts.it.place
      there next e = let same : place ≡ texts.it.place = cc texts.onto in e ∙ ap next same

      pub no_sections : (why : Refusal) → refused why ≡ sections_at strict file place → refused why ≡ head_by strict file
      unfolding contents_by
      no_sections why e = so (carried (there (sections_at strict file) e) _ ∙ onward texts.is _ ∙ onward p _)

      pub whole : (sections : Sections) → given sections ≡ sections_at strict file place → given (record { preamble = preamble; sections = sections; strict = strict }) ≡ head_by strict file
      unfolding contents_by
      whole sections e = so (onward (there (sections_at strict file) e) _ ∙ onward texts.is _ ∙ onward p _)

-- what opening refuses without its text it refuses with it
pub head_refused : (strict : Bool) (file : List ℕ) (why : Refusal) → refused why ≡ head_by strict file → refused why ≡ contents_by strict file
unfolding head_by
head_refused strict file why e = refused_from (contents_by strict file) (λ c. c.head) e
