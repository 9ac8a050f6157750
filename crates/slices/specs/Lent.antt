-- The calls of `load` and `store` (`Load.antt`, `Store.antt`) in a walk that has opened the borrow of its list, each as one step: the row of records is lent for a lifetime that is made for the call, and is back after it.
--     Rows         a record type, and how many records a list has.        Loads, Stores    the contracts of its `load` and `store`
--     load_meets, store_meets      what a user takes: a function of that text meets its contract
--     loads        the row of ys stays, and the result is ys.        stores       the row of ys becomes the row of zs
--     weaker       operands that are read in a context are read in a larger one
-- Assumes nothing.
use Rattle.std.specs.Prelude.{◌≡◌, refl, ℕ, ◌^◌, Bool, [], ◌∷◌, List, T, ltb, length}
use Rattle.std.proofs.Common.{sym, ◌∙◌, ap, subst}
use seplogic.Ra.Ura.{Ura}
use base.Fraction.{full_share}
use mir.Syntax.{Callee, Place, Opd as Operand, Body, named, seq, call}
use mir.Val.{Val, vunit}
use base.Logic.{SProp, ent, sep, wand, id⊢, via, comm∗, mono_l, wand_i, apply∗, ex_e, snd∗}
use base.Fml.{GName, Fml, ftrue, flft, flent}
use prog.Memory.{size}
use prog.Wp.{Env, Calls, Loops, Tables, WpFn, eval_opds}
use types.Logic.{Logic, sem}
use sound.WpLaws.{FmC, eval_opds_fm}
use contract.Monad.{fact}
use types.Kit.{Item, ‵, raw, some, later, ◌⊛◌, ⋆, mean, push, pop, Post, runs, lands, Seq, ◌$◌, ◌∵◌, !, qed, move, drop, use1, use2, use3, split, join, pick, rewrite, regoal, fsplit, fjoin, feq_l, feq_i, frame, await, done}
use types.Run.{Opds}
use types.SemTy.{cells, Arr}
use types.Share.{arr_parts}
use types.Tokens.{lft_new, lft_end, lent_back}
use Rattle.std.specs.Borrow.{RattleType, Bor, MutBor}
use denote.Exit.{Last, left, yes}
use denote.Index as I
use denote.Index.{whole_in, whole_out}
use denote.Laws.{Is, shows}
use denote.Lend.{Held, lends_slice, lends_shr_slice, slice_back}
use denote.Memory.{mem, lone, shares}
use denote.Plain.{Nothing}
use denote.Slice.{slice_val, MutSlice, ShrSlice, Room, finally}
use denote.Steps.{only, owned, facts, heard, nothing}
use denote.Struct.Declared.{Declared, fields, row}
use denote.Struct.Struct.{Plains}
use denote.Struct.Laws as LL
use denote.Triple.Call.{calls_at}
use denote.Triple.Clauses.{Clauses, Ended, closing, ensured, lasts}
use denote.Triple.Spec.{triple_of}
use denote.Triple.Statement.{Contract, Triple}
use denote.Triple.Walked.{says}
use Rattle.slices.specs.Arrays.{AR, of_array}
use Rattle.slices.specs.Load as Ld
use Rattle.slices.specs.Store as St
use Rattle.slices.specs.Values.{Value, at_val}

-- ---- operands that are read in a context are read in a larger one
module _ {M : Type 1} {𝓤 : Ura M} {𝓛 : Logic 𝓤} {K : Type 0} {Γ : List (Item 𝓤)} {E : Env 𝓤 𝓛.H} {os : List Operand} {vs : List Val} where
  open 𝓛 use {H}

  weaker : (i : Item 𝓤) → Opds K 𝓛 Γ E os vs → Opds K 𝓛 (i ∷ Γ) E os vs
  weaker i rd = record {
    go = λ Kt h.
        via 𝓤 (sep 𝓤 P R) (pop 𝓛 i Γ) (via 𝓤 (sep 𝓤 R P) (comm∗ 𝓤 P R)
        (via 𝓤 (sep 𝓤 (eval_opds 𝓤 H E os (λ us. wand 𝓤 P (Kt us))) P)
        (mono_l 𝓤 P (rd.go (λ us. wand 𝓤 P (Kt us)) (wand_i 𝓤 R P (Kt vs) (via 𝓤 (sep 𝓤 P R) (comm∗ 𝓤 R P) (via 𝓤 (⋆ 𝓛 (i ∷ Γ)) (push 𝓛 i Γ) h)))))
        (eval_opds_fm 𝓤 H 𝓛.laws E os (λ us. wand 𝓤 P (Kt us)) Kt P (λ us. via 𝓤 (sep 𝓤 P (wand 𝓤 P (Kt us))) (comm∗ 𝓤 (wand 𝓤 P (Kt us)) P) (apply∗ 𝓤 P (Kt us))))));
  } where
    P : SProp 𝓤
    P = mean 𝓛 i

    R : SProp 𝓤
    R = ⋆ 𝓛 Γ

-- a record type of plain data, and how many records a list of it has
pub record Rows : Type 2 where
  pub D : Declared
  pub L : LL.Laws D
  pub cp : LL.Copyables D.parts
  pub pl : Plains (fields D)
  -- its size in bytes, and whether that is above 1023
  pub s : ℕ
  pub big : Bool
  pub sized : size (lone (row D).mir) ≡ s
  pub s_lit : T (ltb s (2 ^ 64))
  -- what stands past the end of a list
  pub d : D.D
  pub n : ℕ
  pub n_lit : T (ltb n (2 ^ 64))
  pub some_lit : T (ltb 0 n)
  -- nothing is bound of an array of them at exit, and nothing is said
  pub quiet : (xs : List D.D) → Last ((AR D L pl n).exit yes) xs
  pub silent : (xs : List D.D) (f : Last ((AR D L pl n).exit yes) xs) → left ((AR D L pl n).exit yes) xs f ≡ ftrue

module _ (r : Rows) where
  abbrev pub R : RattleType
  R = row r.D

  abbrev pub X : Type 0
  X = r.D.D

  -- the array of n records, as a value that is passed whole
  abbrev pub VL : Value
  VL = of_array r.D r.L r.pl r.n r.quiet r.silent

  abbrev Ra : RattleType
  Ra = VL.ty

  -- an array is as long as a list of n
  pub as_long : (ys zs : List X) → length ys ≡ r.n → Is Ra zs (VL.val zs ∷ []) → length zs ≡ length ys
  as_long ys zs ln is = is.1.0.1 ∙ sym ln

  abbrev LoadE : Ended
  LoadE = Ld.ended r.D r.L r.cp r.pl r.s r.big r.sized r.s_lit r.d r.n r.n_lit r.some_lit

  abbrev StoreE : Ended
  StoreE = St.ended r.D r.L r.pl r.s r.big r.sized r.s_lit r.d r.n r.n_lit r.quiet

  -- the contracts
  module _ {M : Type 1} {𝓤 : Ura M} (𝓛 : Logic 𝓤) where
    open 𝓛 use {H}

    abbrev LoadC : Clauses 𝓤 LoadE
    LoadC = Ld.clauses r.D r.L r.cp r.pl r.s r.big r.sized r.s_lit r.d r.n r.n_lit r.some_lit 𝓤

    abbrev StoreC : Clauses 𝓤 StoreE
    StoreC = St.clauses r.D r.L r.pl r.s r.big r.sized r.s_lit r.d r.n r.n_lit r.quiet 𝓤

    abbrev pub Loads : Contract 𝓤
    Loads = triple_of 𝓛 LoadE.signature (closing 𝓛 LoadE LoadC)

    abbrev pub Stores : Contract 𝓤
    Stores = triple_of 𝓛 StoreE.signature (closing 𝓛 StoreE StoreC)

    -- that `load` and `store` meet them
    module _ (𝓣 : Tables 𝓤 H) where
      pub load_meets : Triple 𝓤 (WpFn 𝓤 H 𝓣.C 𝓣.Λ (Ld.fn r.D r.L r.cp r.pl r.s r.big r.sized r.s_lit r.d r.n r.n_lit r.some_lit)) Loads
      load_meets = Ld.meets r.D r.L r.cp r.pl r.s r.big r.sized r.s_lit r.d r.n r.n_lit r.some_lit 𝓛 𝓣

      pub store_meets : Triple 𝓤 (WpFn 𝓤 H 𝓣.C 𝓣.Λ (St.fn r.D r.L r.pl r.s r.big r.sized r.s_lit r.d r.n r.n_lit r.quiet)) Stores
      store_meets = St.meets r.D r.L r.pl r.s r.big r.sized r.s_lit r.d r.n r.n_lit r.quiet 𝓛 (λ κs xs f. r.silent xs f) 𝓣

  module _ (ys : List X) (b o : ℕ) where
    -- the slice under the name δ, and its machine value
    abbrev sl : GName → MutBor (List X)
    sl δ = record { ref_ptr = (b, o); ghost_name = δ; now = ys }

    -- and lent to be read
    abbrev lent : Bor (List X)
    lent = record { ref_ptr = (b, o); now = ys }

    abbrev sv : Val
    sv = slice_val (b, o) (length ys)

    abbrev held : Fml
    held = I.row R full_share ys b o

    module _ {M : Type 1} {𝓤 : Ura M} {𝓛 : Logic 𝓤} {K : Type 0} {Γ : List (Item 𝓤)} {E : Env 𝓤 𝓛.H} {C : Calls 𝓤 𝓛.H} {Λ : Loops 𝓤 𝓛.H} {q : Post 𝓤 𝓛.H} {g : Callee} {os : List Operand} {p : Place} {rest : Body} where
      open 𝓛 use {H, A}

      pub loads : K → FmC 𝓤 H 𝓛.laws C → Triple 𝓤 (C g) (Loads 𝓛) → Room R (length ys) → length ys ≡ r.n → Opds K 𝓛 Γ E os (sv ∷ [])
          → (Is Ra ys (VL.val ys ∷ []) → Seq K 𝓛 (‵ held ∷ Γ) (lands C Λ E p (VL.val ys) rest q)) → Seq K 𝓛 (‵ held ∷ Γ) (runs C Λ E (seq (call g os p) rest) q)
      loads t fm met room ln rd k =
          feq_i t ℕ (length ys) (length ys) refl $ fjoin t $ lft_new t tt (λ ν. move t (1 ∷ []) $
          use2 𝓛 (later ((‵ ((ShrSlice (named 0) (ν ∷ []) R).own_val lent (sv ∷ [])) ⊛ ‵ (flent (ν ∷ []) ((arr_parts (shares R) (length ys)).part full_share ys b o))) ⊛ ‵ (flft (ν ∷ []) full_share)))
          (lends_shr_slice 𝓛 R (named 0) (ν ∷ []) full_share ys b o room (ν ∷ []) ((LL.copied r.D r.cp 𝓛).shares full_share (ν ∷ [])) ((ν ∷ [], full_share) ∷ []) (λ x m. m) (λ x m. m)) $ await t tt $ split t $ split t $
          move t (2 ∷ 0 ∷ []) $ use2 𝓛 (raw ((Loads 𝓛).pre (to ν))) (goes ν) $
          calls_at t fm (Loads 𝓛) met (to ν) (weaker _ (weaker _ rd)) (λ w.
          use1 𝓛 (later (some (λ (l : List X). ((‵ (flft (ν ∷ []) full_share) ⊛ ‵ ftrue) ⊛ ‵ (Ra.own_val l (w ∷ []))) ⊛ raw (ensured 𝓛 LoadE (LoadC 𝓛) (ν ∷ [], tt) (lent, tt) tt l)))) (id⊢ 𝓤 _) $ await t tt $ pick t (λ l. split t $ move t (1 ∷ []) $
          use1 𝓛 (raw (fact 𝓤 (l ≡ ys))) (hears ν l) $ heard t (l ≡ ys) (λ e. split t $ move t (1 ∷ []) $ facts t Ra (Is Ra) (shows 𝓛 Ra) l (w ∷ []) (λ is.
          regoal t (λ (v : Val). lands C Λ E p v rest q) (ap only (VL.tells l _ is) ∙ ap VL.val e) refl $
          -- [the token; the lender's part]: the lifetime is ended, and the row is back
          split t $ lft_end t tt $ move t (0 ∷ 2 ∷ []) $ lent_back t tt $ fsplit t $ drop t $ move t (1 ∷ []) $ drop t $ k (subst (λ (m : List X). Is Ra m (VL.val m ∷ [])) e (at_val VL l w is)))))))
        where
          to : ℕ → (Loads 𝓛).Ghost
          to ν = (((ν ∷ [], tt), (full_share, tt), tt, (lent, tt), (sv ∷ [], tt)), tt)

          goes : (ν : ℕ) → ent 𝓤 (sep 𝓤 (A.lft (ν ∷ []) full_share) (sem 𝓛 ((ShrSlice (named 0) (ν ∷ []) R).own_val lent (sv ∷ [])))) ((Loads 𝓛).pre (to ν))
          goes ν = qed 𝓛 (‵ (flft (ν ∷ []) full_share) ∷ ‵ ((ShrSlice (named 0) (ν ∷ []) R).own_val lent (sv ∷ [])) ∷ []) ∵ says ! ln $ nothing ! $ move ! (1 ∷ 0 ∷ []) $ join ! $ frame ! $ nothing ! $ move ! (1 ∷ 0 ∷ []) $ fjoin ! $ done !

          hears : (ν : ℕ) (l : List X) → ent 𝓤 (ensured 𝓛 LoadE (LoadC 𝓛) (ν ∷ [], tt) (lent, tt) tt l) (fact 𝓤 (l ≡ ys))
          hears ν l = ex_e 𝓤 _ (λ ws. snd∗ 𝓤 (sem 𝓛 (lasts LoadE (ν ∷ [], tt) (lent, tt) ws)) (fact 𝓤 (l ≡ ys)))

      pub stores : K → FmC 𝓤 H 𝓛.laws C → Triple 𝓤 (C g) (Stores 𝓛) → (zs : List X) → Is Ra zs (VL.val zs ∷ []) → Room R (length ys) → length ys ≡ r.n → Opds K 𝓛 Γ E os (sv ∷ VL.val zs ∷ [])
          → Seq K 𝓛 (‵ (I.row R full_share zs b o) ∷ Γ) (lands C Λ E p vunit rest q) → Seq K 𝓛 (‵ held ∷ Γ) (runs C Λ E (seq (call g os p) rest) q)
      stores t fm met zs gz room ln rd k =
          use1 𝓛 (‵ (cells (mem R) ys b o)) (whole_in 𝓛 R ys b o) $ lft_new t tt (λ ν. move t (1 ∷ []) $
          use1 𝓛 (later (some (λ (δ : GName). ‵ ((MutSlice (named 0) (ν ∷ []) R).own_val (sl δ) (sv ∷ [])) ⊛ ‵ (flent (ν ∷ []) (Held R (length ys) b o δ))))) (lends_slice 𝓛 R (named 0) (ν ∷ []) ys b o room) $ await t tt $ pick t (λ δ. split t $
          move t (2 ∷ 0 ∷ []) $ use2 𝓛 (raw ((Stores 𝓛).pre (to ν δ))) (goes ν δ) $
          calls_at t fm (Stores 𝓛) met (to ν δ) (weaker _ (weaker _ rd)) (λ w.
          use1 𝓛 (later (some (λ (u : Unit {0}). ((‵ (flft (ν ∷ []) full_share) ⊛ ‵ ftrue) ⊛ ‵ (Nothing.own_val u (w ∷ []))) ⊛ raw (ensured 𝓛 StoreE (StoreC 𝓛) (ν ∷ [], tt) (sl δ, (zs, tt)) tt u)))) (id⊢ 𝓤 _) $ await t tt $ pick t (λ u. split t $ move t (1 ∷ []) $
          use1 𝓛 (some (λ (ws : List X × (Last (Ra.exit yes) zs × Unit {0})). ‵ (lasts StoreE (ν ∷ [], tt) (sl δ, (zs, tt)) ws) ⊛ raw (fact 𝓤 (ws.0 ≡ zs)))) (id⊢ 𝓤 _) $ pick t (λ ws.
          split t $ move t (1 ∷ []) $ heard t (ws.0 ≡ zs) (λ e. fsplit t $ fsplit t $ move t (1 ∷ []) $ drop t $ fsplit t $ move t (1 ∷ []) $ feq_l t (λ _.
          -- [the slice's last list; the array's; the token and the result; the lender's part]
          move t (2 ∷ []) $ split t $ move t (1 ∷ []) $ facts t Nothing (Is Nothing) (shows 𝓛 Nothing) u (w ∷ []) (λ is.
          regoal t (λ (v : Val). lands C Λ E p v rest q) (ap only is) refl $
          split t $ lft_end t tt $ rewrite t 2 (λ (l : List X). ‵ (finally R δ l)) e refl $ move t (0 ∷ 4 ∷ 2 ∷ []) $
          use3 𝓛 (later (‵ ((Arr (mem R) (length ys)).own_at zs b o))) (slice_back 𝓛 R (ν ∷ []) δ zs (length ys) b o) $ await t tt $ fsplit t $ drop t $ use1 𝓛 (‵ (I.row R full_share zs b o)) (whole_out 𝓛 R zs b o) $
          move t (1 ∷ 2 ∷ []) $ drop t $ drop t $ k))))))))
        where
          to : ℕ → GName → (Stores 𝓛).Ghost
          to ν δ = (((ν ∷ [], tt), (full_share, tt), tt, (sl δ, (zs, tt)), (sv ∷ [], (VL.val zs ∷ [], tt))), tt)

          goes : (ν : ℕ) (δ : GName) → ent 𝓤 (sep 𝓤 (A.lft (ν ∷ []) full_share) (sem 𝓛 ((MutSlice (named 0) (ν ∷ []) R).own_val (sl δ) (sv ∷ [])))) ((Stores 𝓛).pre (to ν δ))
          goes ν δ = qed 𝓛 (‵ (flft (ν ∷ []) full_share) ∷ ‵ ((MutSlice (named 0) (ν ∷ []) R).own_val (sl δ) (sv ∷ [])) ∷ []) ∵ says ! ln $ nothing ! $ move ! (1 ∷ 0 ∷ []) $ join ! $ frame ! $
              nothing ! $ owned ! Ra (Is Ra) (VL.makes M 𝓤 𝓛) zs _ gz $ fjoin ! $ move ! (1 ∷ 0 ∷ []) $ fjoin ! $ done !
