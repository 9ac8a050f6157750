-- How much room is taken by what is laid down.
use Rattle.std.specs.Prelude.{◌≡◌, ℕ, ◌+◌, ◌≤◌, length}
use Rattle.replay_page.specs.Page.{Page}

-- at most n bytes: where so many are free, the place stays inside, so nothing is left out
pub record Within (n : ℕ) (f : Page → Page) : Type 0 where
  pub fits : (p : Page) → p.place + n ≤ length p.memory → ((f p).place ≤ p.place + n) × (length (f p).memory ≡ length p.memory)
