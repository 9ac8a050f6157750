-- A call of a function that the borrow checker covers, as one step of a walk: it takes plain values, and perhaps lent bytes last, asks nothing, and returns f of them.
--     slots Ps ss          the parameters: a plain value for each of Ps, then ss.        Passed Ps, Ares Ps     the values, and their relations
--     PlainFn, BytesFn     what such a function computes, with no more parameters and with a `&[u8]` more
--     agrees               the contract, as the check states it of such a function
--     calls, calls_lent    the call, without and with the `&[u8]`. What is known after it is the result, with its relation; the context is as it was, but that `calls_lent` uses up what is owned of the bytes
-- Assumes nothing.
use Rattle.std.specs.Prelude.{◌≡◌, refl, ℕ, [], ◌∷◌, List}
use Rattle.std.proofs.Common.{ap}
use seplogic.Ra.Ura.{Ura}
use mir.Syntax.{Callee, Place, Opd as Operand, Body, named, seq, call}
use mir.Val.{Val}
use base.Logic.{SProp, ent, emp, sep, id⊢, via, mono_l, emp∗, ex_e, fst∗, snd∗}
use base.Fml.{Lft, Share, ftrue, flft}
use prog.Wp.{Env, Calls, Loops, eval_opds}
use types.Logic.{Logic, sem}
use sound.WpLaws.{FmC}
use contract.Monad.{fact}
use contract.Lifetimes.{Lfts, Shares, toks}
use types.Kit.{Item, ‵, raw, some, later, ◌⊛◌, ⋆, push, pop, Post, runs, lands, aim, Seq, ◌$◌, ◌∵◌, !, qed, move, drop, use1, split, join, pick, regoal, fjoin, await, done}
use types.Run.{Opds}
use denote.RattleType.{Denots, Valss, flat, owns}
use Rattle.std.specs.Borrow.{u8, Bor}
use denote.Exit.{yes}
use denote.Laws.{Is, shows}
use denote.Signature.{Slot, plain, shr_slice, types_at}
use denote.Slice.{ShrSlice, shr_slice_vals}
use denote.Steps.{only, owned, facts, heard, nothing}
use denote.Triple.Clauses.{Clauses, Ended, closing, ensured, lasts}
use denote.Triple.End.{all}
use denote.Triple.Spec.{triple_of}
use denote.Triple.Statement.{Contract, Triple}
use Rattle.slices.specs.Values.{Value, at_val}

abbrev pub Passed : List Value → Type 0
Passed [] = Unit {0}
Passed (P ∷ Ps) = P.ty.Denot × Passed Ps

abbrev pub Ares : (Ps : List Value) → Passed Ps → Type 0
Ares [] xs = Unit {0}
Ares (P ∷ Ps) xs = Is P.ty xs.0 (P.val xs.0 ∷ []) × Ares Ps xs.1

module _ {n : ℕ} where
  abbrev pub slots : List Value → List (Slot n) → List (Slot n)
  slots [] ss = ss
  slots (P ∷ Ps) ss = plain (λ _. P.ty) ∷ slots Ps ss

  module _ (ss : List (Slot n)) (κs : Lfts n) where
    abbrev pub args : (Ps : List Value) → Passed Ps → Denots (types_at ss κs) → Denots (types_at (slots Ps ss) κs)
    args [] xs t = t
    args (P ∷ Ps) xs t = (xs.0, args Ps xs.1 t)

    abbrev pub vals : (Ps : List Value) → Passed Ps → Valss (types_at ss κs) → Valss (types_at (slots Ps ss) κs)
    vals [] xs vss = vss
    vals (P ∷ Ps) xs vss = (P.val xs.0 ∷ [], vals Ps xs.1 vss)

    -- the plain ones are had for nothing
    own_all : {M : Type 1} {𝓤 : Ura M} (𝓛 : Logic 𝓤) → (Ps : List Value) (xs : Passed Ps) → Ares Ps xs → (t : Denots (types_at ss κs)) (vss : Valss (types_at ss κs))
        → ent 𝓤 (sem 𝓛 (owns (types_at ss κs) t vss)) (sem 𝓛 (owns (types_at (slots Ps ss) κs) (args Ps xs t) (vals Ps xs vss)))
    own_all {𝓤 = 𝓤} 𝓛 [] xs gs t vss = id⊢ 𝓤 _
    own_all {M = M} {𝓤 = 𝓤} 𝓛 (P ∷ Ps) xs gs t vss =
        qed 𝓛 (‵ (owns (types_at ss κs) t vss) ∷ []) ∵ use1 𝓛 (‵ (owns (types_at (slots Ps ss) κs) (args Ps xs.1 t) (vals Ps xs.1 vss))) (own_all 𝓛 Ps xs.1 gs.1 t vss) $
        owned ! P.ty (Is P.ty) (P.makes M 𝓤 𝓛) xs.0 _ gs.0 $ fjoin ! $ done !

-- what may stand behind the plain ones: nothing, or lent bytes
abbrev pub none : List (Slot 0)
none = []

abbrev pub bytes : List (Slot 1)
bytes = shr_slice 0 tt (λ _. u8) ∷ []

abbrev pub PlainFn : List Value → Value → Type 0
PlainFn Ps Z = (κs : Lfts 0) → Denots (types_at (slots Ps none) κs) → Z.ty.Denot

abbrev pub BytesFn : List Value → Value → Type 0
BytesFn Ps Z = (κs : Lfts 1) → Denots (types_at (slots Ps bytes) κs) → Z.ty.Denot

module _ {n : ℕ} (Ps : List Value) (ss : List (Slot n)) (Z : Value) (f : (κs : Lfts n) → Denots (types_at (slots Ps ss) κs) → Z.ty.Denot) where
  abbrev ended : Ended
  ended = record { signature = record { lifetimes = n; outlives = []; params = slots Ps ss; result = plain (λ _. Z.ty) }; kept = all yes (slots Ps ss) }

  abbrev clauses : {M : Type 1} (𝓤 : Ura M) → Clauses 𝓤 ended
  clauses 𝓤 κs a = record { ghost = Unit {0}; requires = λ _. emp 𝓤; ensures = λ _ r e. fact 𝓤 (r ≡ f κs a) }

  abbrev pub agrees : {M : Type 1} {𝓤 : Ura M} (𝓛 : Logic 𝓤) → Contract 𝓤
  agrees {𝓤 = 𝓤} 𝓛 = triple_of 𝓛 ended.signature (closing 𝓛 ended (clauses 𝓤))

  -- what it says
  hears : {M : Type 1} {𝓤 : Ura M} (𝓛 : Logic 𝓤) (κs : Lfts n) (a : Denots (types_at (slots Ps ss) κs)) (r : Z.ty.Denot) → ent 𝓤 (ensured 𝓛 ended (clauses 𝓤) κs a tt r) (fact 𝓤 (r ≡ f κs a))
  hears {𝓤 = 𝓤} 𝓛 κs a r = ex_e 𝓤 _ (λ ws. snd∗ 𝓤 (sem 𝓛 (lasts ended κs a ws)) (fact 𝓤 (r ≡ f κs a)))

module _ {M : Type 1} {𝓤 : Ura M} {𝓛 : Logic 𝓤} {K : Type 0} {E : Env 𝓤 𝓛.H} {C : Calls 𝓤 𝓛.H} {Λ : Loops 𝓤 𝓛.H} {q : Post 𝓤 𝓛.H} {g : Callee} {os : List Operand} {d : Place} {rest : Body} where
  -- the operands are read in the context Δ, of which the call takes what it asks and leaves Γ
  open 𝓛 use {H, A}

  called : {Δ Γ : List (Item 𝓤)} → FmC 𝓤 H 𝓛.laws C → (vs : List Val) (Q : Val → SProp 𝓤) → ent 𝓤 (⋆ 𝓛 Δ) (sep 𝓤 (C g vs Q) (⋆ 𝓛 Γ)) → Opds K 𝓛 Δ E os vs
      → ((v : Val) → Seq K 𝓛 (raw (Q v) ∷ Γ) (lands C Λ E d v rest q)) → Seq K 𝓛 Δ (runs C Λ E (seq (call g os d) rest) q)
  called {Γ = Γ} fm vs Q met rd k = record {
    prf = via 𝓤 (eval_opds 𝓤 H E os (λ us. C g us (λ v. aim 𝓤 H (lands C Λ E d v rest q))))
        (rd.go (λ us. C g us (λ v. aim 𝓤 H (lands C Λ E d v rest q)))
        (via 𝓤 (sep 𝓤 (C g vs Q) (⋆ 𝓛 Γ)) met
        (fm g vs Q (λ v. aim 𝓤 H (lands C Λ E d v rest q)) (⋆ 𝓛 Γ) (λ v. via 𝓤 (⋆ 𝓛 (raw (Q v) ∷ Γ)) (push 𝓛 (raw (Q v)) Γ) (k v).prf))))
        (𝓛.laws.⇛_intro _);
  }

  -- at any slots behind the plain ones, for whose lifetimes Δ has the tokens, which come back
  calls_with : {Δ Γ : List (Item 𝓤)} → K → FmC 𝓤 H 𝓛.laws C → {n : ℕ} (Ps : List Value) (ss : List (Slot n)) (Z : Value) (f : (κs : Lfts n) → Denots (types_at (slots Ps ss) κs) → Z.ty.Denot) → Triple 𝓤 (C g) (agrees Ps ss Z f 𝓛)
      → (κs : Lfts n) (qs : Shares n) (xs : Passed Ps) → Ares Ps xs → (t : Denots (types_at ss κs)) (vss : Valss (types_at ss κs)) → ent 𝓤 (⋆ 𝓛 Δ) (sep 𝓤 (sep 𝓤 (toks 𝓛 n κs qs) (sem 𝓛 (owns (types_at ss κs) t vss))) (⋆ 𝓛 Γ))
      → Opds K 𝓛 Δ E os (flat (types_at (slots Ps ss) κs) (vals ss κs Ps xs vss))
      → ((r : Z.ty.Denot) → r ≡ f κs (args ss κs Ps xs t) → Is Z.ty r (Z.val r ∷ []) → Seq K 𝓛 (raw (toks 𝓛 n κs qs) ∷ Γ) (lands C Λ E d (Z.val r) rest q)) → Seq K 𝓛 Δ (runs C Λ E (seq (call g os d) rest) q)
  calls_with {Γ = Γ} t fm {n} Ps ss Z f met κs qs xs gs u vss has rd k =
      called fm _ (c.post x) (via 𝓤 (sep 𝓤 (sep 𝓤 (toks 𝓛 n κs qs) (sem 𝓛 (owns (types_at ss κs) u vss))) (⋆ 𝓛 Γ)) has (mono_l 𝓤 (⋆ 𝓛 Γ) (via 𝓤 (c.pre x) asks (met x)))) rd (λ v.
      use1 𝓛 (later (some (λ (r : Z.ty.Denot). (raw (toks 𝓛 n κs qs) ⊛ ‵ (Z.ty.own_val r (v ∷ []))) ⊛ raw (ensured 𝓛 (ended Ps ss Z f) (clauses Ps ss Z f 𝓤) κs a tt r)))) (id⊢ 𝓤 _) $ await t tt $ pick t (λ r. split t $ move t (1 ∷ []) $
      use1 𝓛 (raw (fact 𝓤 (r ≡ f κs a))) (hears Ps ss Z f 𝓛 κs a r) $ heard t (r ≡ f κs a) (λ e. split t $ move t (1 ∷ []) $ facts t Z.ty (Is Z.ty) (shows 𝓛 Z.ty) r (v ∷ []) (λ is.
      regoal t (λ (w : Val). lands C Λ E d w rest q) (ap only (Z.tells r _ is)) refl $ k r e (at_val Z r v is)))))
    where
      c : Contract 𝓤
      c = agrees Ps ss Z f 𝓛

      a : Denots (types_at (slots Ps ss) κs)
      a = args ss κs Ps xs u

      x : c.Ghost
      x = ((κs, qs, tt, a, vals ss κs Ps xs vss), tt)

      asks : ent 𝓤 (sep 𝓤 (toks 𝓛 n κs qs) (sem 𝓛 (owns (types_at ss κs) u vss))) (c.pre x)
      asks = qed 𝓛 (raw (toks 𝓛 n κs qs) ∷ ‵ (owns (types_at ss κs) u vss) ∷ []) ∵ move ! (1 ∷ []) $ use1 𝓛 (‵ (owns (types_at (slots Ps ss) κs) a (vals ss κs Ps xs vss))) (own_all ss κs 𝓛 Ps xs gs u vss) $
          move ! (1 ∷ 0 ∷ []) $ join ! $ nothing ! $ move ! (1 ∷ 0 ∷ []) $ done !

  -- ---- plain values alone
  module _ {Γ : List (Item 𝓤)} where
    pub calls : K → FmC 𝓤 H 𝓛.laws C → (Ps : List Value) (Z : Value) (f : PlainFn Ps Z) → Triple 𝓤 (C g) (agrees Ps none Z f 𝓛) → (xs : Passed Ps) → Ares Ps xs → Opds K 𝓛 Γ E os (flat (types_at (slots Ps none) tt) (vals none tt Ps xs tt))
        → ((r : Z.ty.Denot) → r ≡ f tt (args none tt Ps xs tt) → Is Z.ty r (Z.val r ∷ []) → Seq K 𝓛 Γ (lands C Λ E d (Z.val r) rest q)) → Seq K 𝓛 Γ (runs C Λ E (seq (call g os d) rest) q)
    calls t fm Ps Z f met xs gs rd k = calls_with t fm Ps none Z f met tt tt xs gs tt tt has rd (λ r e is. drop t $ k r e is)
      where
        has : ent 𝓤 (⋆ 𝓛 Γ) (sep 𝓤 (sep 𝓤 (emp 𝓤) (emp 𝓤)) (⋆ 𝓛 Γ))
        has = via 𝓤 (sep 𝓤 (emp 𝓤) (⋆ 𝓛 Γ)) (emp∗ 𝓤 (⋆ 𝓛 Γ)) (mono_l 𝓤 (⋆ 𝓛 Γ) (emp∗ 𝓤 (emp 𝓤)))

    -- ---- and then lent bytes, for whose lifetime the token is back afterwards
    module _ {κ : Lft} {s : Share} where
      pub calls_lent : K → FmC 𝓤 H 𝓛.laws C → (Ps : List Value) (Z : Value) (f : BytesFn Ps Z) → Triple 𝓤 (C g) (agrees Ps bytes Z f 𝓛) → (xs : Passed Ps) → Ares Ps xs → (b : Bor (List ℕ))
          → Opds K 𝓛 (‵ (flft κ s) ∷ ‵ ((ShrSlice (named 0) κ u8).own_val b (shr_slice_vals b)) ∷ Γ) E os (flat (types_at (slots Ps bytes) (κ, tt)) (vals bytes (κ, tt) Ps xs (shr_slice_vals b, tt)))
          → ((r : Z.ty.Denot) → r ≡ f (κ, tt) (args bytes (κ, tt) Ps xs (b, tt)) → Is Z.ty r (Z.val r ∷ []) → Seq K 𝓛 (‵ (flft κ s) ∷ Γ) (lands C Λ E d (Z.val r) rest q))
          → Seq K 𝓛 (‵ (flft κ s) ∷ ‵ ((ShrSlice (named 0) κ u8).own_val b (shr_slice_vals b)) ∷ Γ) (runs C Λ E (seq (call g os d) rest) q)
      calls_lent t fm Ps Z f met xs gs b rd k =
          calls_with t fm Ps bytes Z f met (κ, tt) (s, tt) xs gs (b, tt) (shr_slice_vals b, tt) has rd (λ r e is. use1 𝓛 (‵ (flft κ s)) (fst∗ 𝓤 (A.lft κ s) (emp 𝓤)) $ k r e is)
        where
          has : ent 𝓤 (⋆ 𝓛 (‵ (flft κ s) ∷ ‵ ((ShrSlice (named 0) κ u8).own_val b (shr_slice_vals b)) ∷ Γ)) (sep 𝓤 (sep 𝓤 (toks 𝓛 1 (κ, tt) (s, tt)) (sem 𝓛 (owns (types_at bytes (κ, tt)) (b, tt) (shr_slice_vals b, tt)))) (⋆ 𝓛 Γ))
          has =
              via 𝓤 (⋆ 𝓛 (((‵ (flft κ s) ⊛ ‵ ftrue) ⊛ ‵ (owns (types_at bytes (κ, tt)) (b, tt) (shr_slice_vals b, tt))) ∷ Γ))
              (qed 𝓛 (‵ (flft κ s) ∷ ‵ ((ShrSlice (named 0) κ u8).own_val b (shr_slice_vals b)) ∷ Γ) ∵ nothing ! $ move ! (1 ∷ 0 ∷ []) $ join ! $ move ! (1 ∷ []) $ nothing ! $ move ! (1 ∷ 0 ∷ []) $ fjoin ! $ move ! (1 ∷ 0 ∷ []) $ join ! $ done !)
              (pop 𝓛 ((‵ (flft κ s) ⊛ ‵ ftrue) ⊛ ‵ (owns (types_at bytes (κ, tt)) (b, tt) (shr_slice_vals b, tt))) Γ)
