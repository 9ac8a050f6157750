-- A core, a session's state or a probe with one part changed.
use Rattle.std.specs.Prelude.{Bool, List, ℕ}
use Rattle.phones.specs.declared.ShortId.{ShortId}
use Rattle.state.specs.declared.Methods.{Methods}
use Rattle.state.specs.declared.Policy.{Policy}
use Rattle.state.specs.declared.Session.{Session}
use Rattle.state.specs.declared.Validation.{Validation}
use Rattle.state.specs.declared.Window.{Window}
use Rattle.state.specs.declared.Probe.{Probe}
use Rattle.state.specs.declared.Core.{Core}

-- ---- a core

abbrev pub with_methods : Core → Methods → Core
with_methods c x = record { settings = c.settings; methods = x; policy = c.policy; peer = c.peer; validation = c.validation; probe = c.probe }

abbrev pub with_policy : Core → Policy → Core
with_policy c x = record { settings = c.settings; methods = c.methods; policy = x; peer = c.peer; validation = c.validation; probe = c.probe }

abbrev pub with_peer : Core → ShortId → Core
with_peer c x = record { settings = c.settings; methods = c.methods; policy = c.policy; peer = x; validation = c.validation; probe = c.probe }

abbrev pub with_validation : Core → Validation → Core
with_validation c x = record { settings = c.settings; methods = c.methods; policy = c.policy; peer = c.peer; validation = x; probe = c.probe }

abbrev pub with_probe : Core → Probe → Core
with_probe c x = record { settings = c.settings; methods = c.methods; policy = c.policy; peer = c.peer; validation = c.validation; probe = x }

-- ---- a session's state

abbrev pub with_session : Validation → Session → Validation
with_session v x = record { session = x; cooldown_until = v.cooldown_until; next = v.next; tries = v.tries }

abbrev pub with_cooldown : Validation → ℕ → Validation
with_cooldown v x = record { session = v.session; cooldown_until = x; next = v.next; tries = v.tries }

abbrev pub with_next : Validation → ℕ → Validation
with_next v x = record { session = v.session; cooldown_until = v.cooldown_until; next = x; tries = v.tries }

abbrev pub with_tries : Validation → ℕ → Validation
with_tries v x = record { session = v.session; cooldown_until = v.cooldown_until; next = v.next; tries = x }

-- ---- a probe

abbrev pub with_window : Probe → Window → Probe
with_window b x = record { window = x; attempts = b.attempts; relocks = b.relocks; heard = b.heard; marks = b.marks }

abbrev pub with_attempts : Probe → ℕ → Probe
with_attempts b x = record { window = b.window; attempts = x; relocks = b.relocks; heard = b.heard; marks = b.marks }

abbrev pub with_relocks : Probe → ℕ → Probe
with_relocks b x = record { window = b.window; attempts = b.attempts; relocks = x; heard = b.heard; marks = b.marks }

abbrev pub with_marks : Probe → List Bool → List ℕ → Probe
with_marks b hs ms = record { window = b.window; attempts = b.attempts; relocks = b.relocks; heard = hs; marks = ms }
