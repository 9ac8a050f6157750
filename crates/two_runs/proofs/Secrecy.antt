-- Demand 3, first part: two runs differ in nothing but the digits. One line or two for each constructor of Alike.
use Rattle.std.specs.Prelude.{unwrap_or}
use mathlib.Core.Path.{◌≡◌, refl, sym, subst, ◌∙◌}
use mathlib.Core.Bool.{Bool, true, false, cond, true≢false}
use mathlib.Core.List.{List, [], ◌∷◌}
use Prim.Native.Nat.{ℕ}
use Rattle.phones.specs.Ids.{Left, stays, becomes}
use Rattle.draw.specs.Draw.{drawn}
use Rattle.text.specs.Text.{is_text}
use Rattle.saved_record.specs.SavedRecord.{CarIds}
use Rattle.state.specs.declared.Core.{Core}
use Rattle.state.specs.declared.Gate.{Gate}
use Rattle.state.specs.declared.Answer.TheVariants.{Done, BadSettings}
use Rattle.state.specs.declared.Mark.{Mark}
use Rattle.state.specs.declared.Mark.TheVariants.{Blank, Kept, Fresh}
use Rattle.state.specs.declared.Said.{Said}
use Rattle.state.specs.declared.Ended.{Ended}
use Rattle.state.specs.Answers.{numbered}
use Rattle.state.specs.Replies.{no_code, code_at, sending, showing}
use Rattle.state.specs.View.{View, Listing, view, laid_phones}
use Rattle.range.specs.Range.{in_range}
use Rattle.save.specs.Save.{Saving}
use Rattle.can_queue.specs.Calls as CanQueue
use Rattle.can_queue.specs.Calls.{Sending}
use Rattle.can_turns.specs.Turns.{Serving, serving, report_of}
use Rattle.validation.specs.Calls.{submit}
use Rattle.answers.specs.Query.{plain, report, ReplyByIds}
use Rattle.definition.specs.Gate.{send_can_frame, serve_can_frames, Call, Says, saying, asked, served, saving, queueing, of_session, of_lists, of_save, of_sending, of_serving, says, full_for, Lent, bytes, records, lent_to, lent_as, lent_after, left, gives, packed, step, after}
use Rattle.two_runs.specs.Demand.{blanked, hide_gate, hide_challenge, hide_signals, seen, run, code_runs, is_right, comes_to_draw, judges, Alike, starts, submits, news, session_calls, list_calls, save_calls, queue_calls, core_calls, asks, TwoRuns, end, next, EqualButDigits, AlikeGates, StayAlike, over, place, LookAlike}
use Rattle.two_runs.proofs.Digits.{blanked_drawn}
use Rattle.two_runs.proofs.Turns.{Shown, Marked, Fit, tries_fit_lem, turn_core, turn_session, turn_serving}
use Rattle.two_runs.proofs.Sessions.{started, submitted_as, passes, start_by, submit_by}
use Rattle.two_runs.proofs.Queries.{recoded, SameReply, answer_as}

-- ---- one call, at a gate with its own digits and with others

-- the same gate with other digits
abbrev recoded_gate : Gate → List ℕ → Gate
recoded_gate g other = record { core = g.core; phones = g.phones; save = g.save; queue = g.queue; code = other }

-- what is said looks alike, m and n being the lent memory, and without a running CodeEntry session there are no digits to differ
record Twin (g : Gate) (other : List ℕ) (m n : Lent) (s t : Says) : Type 0 where
  look : seen (gives packed g m s) ≡ seen (gives packed g n t)
  stay : (code_runs g.core ≡ false → g.code ≡ other) → code_runs s.core ≡ false → s.code ≡ t.code

module _ (g : Gate) (other : List ℕ) (e : blanked g.core.settings.digits g.code ≡ blanked g.core.settings.digits other) where
  abbrev here : View
  here = view g

  abbrev there : View
  there = recoded (view g) other

  twin_asked : {m : Lent} (r r' : ReplyByIds) → SameReply r r' → Twin g other m m (asked here r) (asked there r')
  unfolding seen gives left hide_gate view
  twin_asked {m} r r' a = record {
    look = λ i. record {
      numbered = a.0 i;
      answer = a.1 i;
      signals = (seen (gives packed g m (asked here r))).signals;
      lent = lent_after m stays;
      gate = record { core = g.core; phones = g.phones; save = g.save; queue = g.queue; code = e i };
    };
    stay = λ held r. held r;
  }

  -- in range, or refused with this answer
  twin_or : {m : Lent} (a : ReplyByIds) (s t : Says) → SameReply a a → (in_range here ≡ true → Twin g other m m s t) → Twin g other m m (cond (in_range here) s (asked here a)) (cond (in_range there) t (asked there a))
  unfolding in_range
  twin_or {m} a s t k h = go (in_range here) h
    where
      go : (b : Bool) → (b ≡ true → Twin g other m m s t) → Twin g other m m (cond b s (asked here a)) (cond b t (asked there a))
      go true h = h refl
      go false h = twin_asked a a k

  twin_served : {m : Lent} (s t : Says) → (in_range here ≡ true → Twin g other m m s t) → Twin g other m m (served here s) (served there t)
  unfolding served
  twin_served s t h = twin_or (plain BadSettings) s t (refl, refl) h

  twin_lists : {m : Lent} (x : Listing) → Twin g other m m (of_lists here x) (of_lists there x)
  unfolding seen gives left hide_gate view
  twin_lists {m} x = record {
    look = λ i. record {
      numbered = numbered x.answer;
      answer = plain x.answer;
      signals = (seen (gives packed g m (of_lists here x))).signals;
      lent = lent_after m stays;
      gate = record { core = g.core; phones = laid_phones g.phones x.paired x.store; save = g.save; queue = g.queue; code = e i };
    };
    stay = λ held r. held r;
  }

  twin_save : {m : Lent} (x : Saving) → Twin g other m m (of_save here x) (of_save there x)
  unfolding seen gives left hide_gate view
  twin_save {m} x = record {
    look = λ i. record {
      numbered = numbered x.answer;
      answer = plain x.answer;
      signals = (seen (gives packed g m (of_save here x))).signals;
      lent = lent_after m (lent_as bytes x.lent);
      gate = record { core = g.core; phones = g.phones; save = x.save; queue = g.queue; code = e i };
    };
    stay = λ held r. held r;
  }

  twin_sending : {m : Lent} (x : Sending) → Twin g other m m (of_sending here x) (of_sending there x)
  unfolding seen gives left hide_gate view
  twin_sending {m} x = record {
    look = λ i. record {
      numbered = numbered x.answer;
      answer = plain x.answer;
      signals = (seen (gives packed g m (of_sending here x))).signals;
      lent = lent_after m (lent_as records x.lent);
      gate = record { core = g.core; phones = g.phones; save = g.save; queue = x.queue; code = e i };
    };
    stay = λ held r. held r;
  }

  -- a run keeps the code length, and whether a CodeEntry session runs
  twin_serving : {m : Lent} (x : Serving) → x.core.settings ≡ g.core.settings → code_runs x.core ≡ code_runs g.core → Twin g other m m (of_serving here x) (of_serving there x)
  unfolding seen gives left hide_gate view
  twin_serving {m} x s r =
      let c : blanked x.core.settings.digits g.code ≡ blanked x.core.settings.digits other = rw s e in
      record {
        look = λ i. record {
          numbered = numbered Done;
          answer = report Done (report_of x.decided);
          signals = (seen (gives packed g m (of_serving here x))).signals;
          lent = lent_after m (becomes (records x.list));
          gate = record { core = x.core; phones = g.phones; save = g.save; queue = x.queue; code = c i };
        };
        stay = λ held k. held (sym r ∙ k);
      }

  module _ (drew drew' : List ℕ) (d : blanked g.core.settings.digits drew ≡ blanked g.core.settings.digits drew') where
    placed : (m : Mark) → blanked g.core.settings.digits (code_at g.code drew m) ≡ blanked g.core.settings.digits (code_at other drew' m)
    placed Blank = refl
    placed Kept = e
    placed Fresh = d

    shown : (length : ℕ) (m : Mark) → Shown g.core.settings.digits length m → blanked length (code_at g.code drew m) ≡ blanked length (code_at other drew' m)
    shown length Blank s = refl
    shown length Kept s = rw s e
    shown length Fresh s = rw s d

    unmarked : (c : Core) (m : Mark) → Marked g.core c m → (code_runs g.core ≡ false → g.code ≡ other) → code_runs c ≡ false → code_at g.code drew m ≡ code_at other drew' m
    unmarked c Blank f held r = refl
    unmarked c Kept f held r = held (sym f ∙ r)
    unmarked c Fresh f held r = absurd (true≢false (sym f ∙ r))

    twin_said : {m : Lent} (o o' : Said) → Fit g.core o → o ≡ o' → (b : Bool) (x : Left (List CarIds)) → Twin g other m m (saying here drew o b x) (saying there drew' o' b x)
    unfolding saying seen gives left hide_gate hide_signals hide_challenge view
    twin_said {m} o o' f p b x =
        let c : blanked o.core.settings.digits (code_at g.code drew o.code) ≡ blanked o.core.settings.digits (code_at other drew' o.code) = rw f.settings (placed o.code) in
        let s = shown o.raised.challenge.challenge.length o.shows f.shows in
        subst (λ (z : Said). Twin g other m m (saying here drew o b x) (saying there drew' z b x)) p
        (record {
          look = λ i. record {
            numbered = numbered o.answer;
            answer = plain o.answer;
            signals = sending (showing (s i) o.raised) (gives packed g m (saying here drew o b x)).signals.validations;
            lent = lent_after m stays;
            gate = record { core = o.core; phones = laid_phones g.phones stays x; save = g.save; queue = g.queue; code = c i };
          };
          stay = unmarked o.core o.code f.code;
        })

  twin_ended : {m : Lent} (x y : Ended) → Fit g.core x.said → x ≡ y → Twin g other m m (of_session here x) (of_session there y)
  unfolding view
  twin_ended {m} x y f p = subst (λ (z : Ended). Twin g other m m (of_session here x) (of_session there z)) p (twin_said no_code no_code refl x.said x.said f refl x.validates _)

  -- ---- every call

  twin : {c d : Call} → Alike g (recoded_gate g other) c d → Twin g other (lent_to c) (lent_to d) (says here c) (says there d)
  unfolding says queueing view comes_to_draw judges
  twin (starts phone method clock r s a) =
      let n = g.core.settings.digits in
      twin_served _ _ (λ f. twin_said (unwrap_or (drawn r n) no_code) (unwrap_or (drawn s n) no_code) (blanked_drawn n r ∙ sym (blanked_drawn n s)) _ _
      (started g.core phone method clock _ _).fit (start_by g.core phone method clock (λ d. a (passes _ _ f d))) false stays)
  twin (submits phone clock t u a b) =
      twin_served _ _ (λ f. twin_ended _ _ (submitted_as g.core (tries_fit_lem here f).0 clock phone _ _ _).fit
      (submit_by g.core phone clock (full_for here) (is_text t) (λ z j. b z (passes _ _ f j))
      ∙ λ i. submit g.core phone clock (a f i) (is_right (recoded_gate g other) u) (full_for here)))
  twin (news settings methods count) = record { look = refl; stay = λ held r. refl }
  twin (session_calls k) = twin_served _ _ (λ f. twin_ended _ _ (turn_session g.core _ k).fit refl)
  twin (list_calls k) = twin_served _ _ (λ f. twin_lists _)
  twin (save_calls k) = twin_served _ _ (λ f. twin_save (saving here.lists.store g.save k))
  twin (queue_calls (send_can_frame list frame class owner)) = twin_served _ _ (λ f. twin_sending (CanQueue.sending g.queue list frame class owner))
  twin (queue_calls (serve_can_frames list turns clock)) =
      let t = turn_serving g.core here.lists g.queue list turns clock in
      twin_or (report BadSettings (report_of [])) _ _ (refl, refl) (λ f. twin_serving (serving g.core here.lists g.queue list turns clock) t.settings t.runs)
  twin (core_calls k) = twin_served _ _ (λ f. twin_said no_code no_code refl _ _ (turn_core g.core _ k).fit refl false stays)
  twin (asks q) = twin_asked _ _ (answer_as here other e q)

-- both outcomes look alike; and where alike gates without a running CodeEntry session are equal, they stay so
record Match (g h : Gate) (c d : Call) : Type 0 where
  look : seen (step g c) ≡ seen (step h d)
  stay : (code_runs g.core ≡ false → g.code ≡ h.code) → code_runs (after g c).core ≡ false → after g c ≡ after h d

match : (g h : Gate) {c d : Call} → EqualButDigits g h → Alike g h c d → Match g h c d
unfolding hide_gate step gives left view seen
match g h {c} {d} e = subst (λ (z : Gate). Alike g z c d → Match g z c d) (λ i. record { core = (e i).core; phones = (e i).phones; save = (e i).save; queue = (e i).queue; code = h.code }) of
  where
    codes : blanked g.core.settings.digits g.code ≡ blanked g.core.settings.digits h.code
    codes = (λ i. (e i).code) ∙ sym (λ i. blanked (e i).core.settings.digits h.code)

    of : Alike g (recoded_gate g h.code) c d → Match g (recoded_gate g h.code) c d
    of a =
        let t = twin g h.code codes a in
        record {
          look = t.look;
          stay = λ held r. let k = t.stay held r in λ i. record { core = (t.look i).gate.core; phones = (t.look i).gate.phones; save = (t.look i).gate.save; queue = (t.look i).gate.queue; code = k i };
        }

-- ---- the list

left_alike : (g h : Gate) {c d : Call} → EqualButDigits g h → Alike g h c d → EqualButDigits (after g c) (after h d)
unfolding seen
left_alike g h e a = λ i. ((match g h e a).look i).gate

pub look_alike : (g h : Gate) (cs ds : List Call) → EqualButDigits g h → TwoRuns g h cs ds → LookAlike (run g cs) (run h ds)
look_alike g h cs ds e end = refl
look_alike g h cs ds e (next {c = c} {d = d} {cs = cs'} {ds = ds'} a r) =
    λ i. (match g h e a).look i ∷ look_alike (after g c) (after h d) cs' ds' (left_alike g h e a) r i

pub stay_alike : (g h : Gate) (cs ds : List Call) → AlikeGates g h → TwoRuns g h cs ds → StayAlike (run g cs) (run h ds)
stay_alike g h cs ds e end = over
stay_alike g h cs ds e (next {c = c} {d = d} {cs = cs'} {ds = ds'} a r) =
    let stay = (match g h e.0 a).stay (λ q i. (e.1 q i).code) in
    let k : AlikeGates (after g c) (after h d) = (left_alike g h e.0 a, stay) in
    place k (stay_alike (after g c) (after h d) cs' ds' k r)
