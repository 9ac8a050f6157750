-- What an operation on the core leaves of it: all but some parts. One law for each way in which an operation is said.
use mathlib.Core.Path.{◌≡◌, refl}
use mathlib.Core.Bool.{Bool, true, false, cond}
use mathlib.Core.List.{List, [], ◌∷◌}
use Rattle.state.specs.declared.Validation.{Validation}
use Rattle.state.specs.declared.Core.{Core}
use Rattle.state.specs.declared.Answer.{Answer}
use Rattle.state.specs.declared.Raised.{Raised}
use Rattle.state.specs.declared.Mark.TheVariants.{Blank, Kept}
use Rattle.state.specs.declared.Said.{Said}
use Rattle.state.specs.Parts.{with_validation}
use Rattle.state.specs.Replies.{nothing_raised, leave, quiet, reply, finish}
use Rattle.state.specs.Checks.{Check, checked}
use Rattle.footprint.specs.Footprint.{Part, settings, methods, validation, code, in_core, notes, policy, peer, probe, is_in}

-- x, or y if the part is one of these
abbrev pub pick : {A : Type 0} → List Part → Part → A → A → A
pick ps p x y = cond (is_in p ps) y x

-- c with these parts of d
abbrev pub mixed : List Part → Core → Core → Core
mixed ps c d = record {
  settings = pick ps settings c.settings d.settings;
  methods = record {
    list = pick ps methods c.methods.list d.methods.list;
    count = pick ps methods c.methods.count d.methods.count;
    available = pick ps (in_core notes) c.methods.available d.methods.available;
    continues = pick ps (in_core notes) c.methods.continues d.methods.continues;
  };
  policy = pick ps (in_core policy) c.policy d.policy;
  peer = pick ps (in_core peer) c.peer d.peer;
  validation = pick ps validation c.validation d.validation;
  probe = pick ps (in_core probe) c.probe d.probe;
}

-- an operation that changes these parts and no others; without the code it shows no digits
pub record Keeps (ps : List Part) (c : Core) (o : Said) : Type 0 where
  pub core : o.core ≡ mixed ps c o.core
  pub shows : o.shows ≡ pick ps code Blank o.shows
  pub code : o.code ≡ pick ps code Kept o.code

pub either : {A : Type 0} (P : A → Type 0) (b : Bool) (x y : A) → P x → P y → P (cond b x y)
either P true x y h k = h
either P false x y h k = k

pub each_check : {A : Type 0} (P : A → Type 0) (f : Answer → A) (ks : List Check) (x : A) → ((a : Answer) → P (f a)) → P x → P (checked f ks x)
unfolding checked
each_check P f [] x r h = h
each_check P f (k ∷ ks) x r h = either P k.meets _ _ (r k.answer) (each_check P f ks x r h)

pub same_either : {A : Type 0} (b : Bool) (x : A) → x ≡ cond b x x
same_either true x = refl
same_either false x = refl

pub validation_only : (ps : List Part) (c : Core) (x : Validation) → x ≡ pick ps validation c.validation x
    → with_validation c x ≡ mixed ps c (with_validation c x)
validation_only ps c x e = λ i. record {
  settings = same_either (is_in settings ps) c.settings i;
  methods = record {
    list = same_either (is_in methods ps) c.methods.list i;
    count = same_either (is_in methods ps) c.methods.count i;
    available = same_either (is_in (in_core notes) ps) c.methods.available i;
    continues = same_either (is_in (in_core notes) ps) c.methods.continues i;
  };
  policy = same_either (is_in (in_core policy) ps) c.policy i;
  peer = same_either (is_in (in_core peer) ps) c.peer i;
  validation = e i;
  probe = same_either (is_in (in_core probe) ps) c.probe i;
}

pub unchanged : (ps : List Part) (c : Core) → c ≡ mixed ps c c
unchanged ps c = validation_only ps c c.validation (same_either (is_in validation ps) c.validation)

-- ---- the ways

pub keeps_reply : (ps : List Part) (c c' : Core) (a : Answer) (r : Raised) → c' ≡ mixed ps c c' → Keeps ps c (reply c' a r)
unfolding reply
keeps_reply ps c c' a r e = record { core = e; shows = same_either (is_in code ps) Blank; code = same_either (is_in code ps) Kept }

pub keeps_quiet : (ps : List Part) (c c' : Core) (a : Answer) → c' ≡ mixed ps c c' → Keeps ps c (quiet c' a)
unfolding quiet reply
keeps_quiet ps c c' a e = keeps_reply ps c c' a nothing_raised e

pub keeps_leave : (ps : List Part) (c : Core) (a : Answer) → Keeps ps c (leave c a)
unfolding leave reply
keeps_leave ps c a = keeps_reply ps c c a nothing_raised (unchanged ps c)

-- the end of a session wipes the code
pub keeps_finish : (ps : List Part) (c c' : Core) (a : Answer) (r : Raised) → c' ≡ mixed ps c c' → is_in code ps ≡ true → Keeps ps c (finish c' a r)
unfolding finish
keeps_finish ps c c' a r e b = record { core = e; shows = rw b; code = rw b }

pub keeps_cond : (ps : List Part) (c : Core) (b : Bool) (o o' : Said) → Keeps ps c o → Keeps ps c o' → Keeps ps c (cond b o o')
keeps_cond ps c b o o' h k = either (λ o. Keeps ps c o) b o o' h k

pub keeps_checked : (ps : List Part) (c : Core) (ks : List Check) (o : Said) → Keeps ps c o → Keeps ps c (checked (leave c) ks o)
keeps_checked ps c ks o h = each_check (λ o. Keeps ps c o) (leave c) ks o (keeps_leave ps c) h

pub ruleset keeping = (keeps_cond, keeps_checked, keeps_leave, keeps_quiet, keeps_reply, keeps_finish, unchanged, refl)
