-- Laws of the ids of a list and of the fields of a line, place by place.
use Rattle.std.proofs.Common.{◌≡◌, sym, ◌∙◌, ℕ, ◌+◌, ◌≤◌, ◌<◌, List, [], ◌∷◌, length, drop, get_or, drop_of_length-le, add-one}
use lib.Seq.{drop-cons}
use Rattle.replay_page.specs.Page.{Page}
use Rattle.replay_lines.specs.Parts.{id_at, ids_from}
use Rattle.replay_lines.specs.Fields.{put_field, put_fields}
use Rattle.replay_lines.specs.declared.fields.Field.{Field}

-- all ids, where those that are left are written from place i on
module _ (all : Page) (i : ℕ) (left : List (List ℕ)) (p : Page) (inv : all ≡ ids_from i left p) where
  pub ids_again : (k j : ℕ) (x : List ℕ) (xs : List (List ℕ)) (q : Page) → left ≡ x ∷ xs → k ≡ i → j ≡ i + 1 → q ≡ id_at k x p → all ≡ ids_from j xs q
  unfolding ids_from
  ids_again k j x xs q l e n put = inv ∙ rw (l, put, n, e)

  pub ids_end : left ≡ [] → p ≡ all
  unfolding ids_from
  ids_end l = sym (inv ∙ rw l)

module _ (lent : List ℕ) (fs : List Field) (i : ℕ) (p₀ p : Page) (inv : put_fields lent fs p₀ ≡ put_fields lent (drop i fs) p) where
  pub fields_again : (d : Field) (q : Page) → i < length fs → q ≡ put_field lent (get_or fs i d) p → put_fields lent fs p₀ ≡ put_fields lent (drop (i + 1) fs) q
  unfolding put_fields
  fields_again d q h e = inv ∙ rw (e, add-one, drop-cons fs i d h)

  pub fields_end : length fs ≤ i → p ≡ put_fields lent fs p₀
  unfolding put_fields
  fields_end h = sym (inv ∙ rw (drop_of_length-le fs h))
