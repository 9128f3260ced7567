-- In one life the steps of a channel go on, and a handover begins the next one.
use Rattle.std.proofs.Common.{◌≡◌, ℕ, Bool, false, ◌||◌, List, [], ◌++◌, refl, ap, sym, subst, ◌∙◌}
use Rattle.air_link.specs.Link.{Link}
use Rattle.air_record.specs.declared.record.Record.{Record}
use Rattle.eps_sec.specs.declared.Keys.{Keys}
use Rattle.l2_node.specs.End.{End}
use Rattle.l2_types.specs.declared.side.Side.{Side}
use Rattle.law_node.specs.Calls.{Move, after as after_call}
use Rattle.law_run.specs.AnyCalls.Calls.{HandsOver}
use Rattle.law_run.specs.AnyCalls.Runs.{Step, Calls, step}
use Rattle.law_deliver.specs.AmFlow.Air.{Air, outset}
use Rattle.law_words.specs.Arrivals.{AccountEntry}
use Rattle.law_deliver.specs.AmChannel.Arrival.{happened}
use Rattle.law_deliver.specs.AmChannel.Lives.{lives}
use Rattle.law_run.specs.TwoEnds.Arrival.{told_by_step}
use Rattle.law_deliver.specs.UmGaps.Whats.{whats}
use Rattle.law_run.specs.TwoEnds.Going.{handed_in, sets, TellAlone, GoesByAir, IsStepSince}
use Rattle.promises.specs.Flows.{looped_at}
use Rattle.law_run.specs.TwoEnds.On.{IsOn}
use Rattle.law_run.specs.TwoEnds.Staying.{AreInLife, is_handover_step, MovesOn}
use Rattle.law_run.proofs.TwoEnds.Advancing.{steps_stay, handovers_move}
use Rattle.promises.specs.Arrival.{entries_in}
use Rattle.law_run.specs.TwoEnds.Logs.{LogEntry, log_of, no_flight, logged, LogAlone}
use Rattle.law_run.proofs.TwoEnds.Going.{logs_then, logged_both}
use Rattle.law_run.proofs.TwoEnds.Going.{setting, Unread, Whats, GoesBehind, behind_then, happens_then}
use Rattle.law_run.proofs.TwoEnds.Coming.{either_off, ends_come_by, come_as}

-- since both ends were these, in one life, a link has come by air to what it is
pub record LivedIn (l : ℕ) (nb ue : End) (told : List Record) (submitted : Side → ℕ → List (List ℕ)) (said : ℕ → Side
    → List AccountEntry) (set : Bool) (k : Link) : Type 0 where
  pub by : GoesByAir l told submitted said set k (outset nb ue)
  pub in_life : AreInLife by.steps

-- nothing else of a link matters
pub ends_live_in : (l : ℕ) (nb ue : End) (told : List Record) (submitted : Side → ℕ → List (List ℕ)) (said : ℕ → Side
    → List AccountEntry) (set : Bool) (k m : Link)
    → m.nb ≡ k.nb → m.ue ≡ k.ue → m.ttis ≡ k.ttis → LivedIn l nb ue told submitted said set k
    → LivedIn l nb ue told submitted said set m
ends_live_in l nb ue told submitted said set k m nb_is ue_is ttis_is h = record {
  by = ends_come_by l told submitted said set k m (outset nb ue) nb_is ue_is ttis_is h.by;
  in_life = h.in_life;
}

-- the same records and SDUs in another form
pub lived_in_as : (l : ℕ) (nb ue : End) (f g : List Record) (x y : Side → ℕ → List (List ℕ)) (v w : ℕ → Side
    → List AccountEntry) (b c : Bool) (k : Link)
    → f ≡ g → ((side : Side) (n : ℕ) → x side n ≡ y side n)
    → ((bits : ℕ) (from : Side) → v bits from ≡ w bits from) → b ≡ c
    → LivedIn l nb ue f x v b k → LivedIn l nb ue g y w c k
lived_in_as l nb ue f g x y v w b c k told same air on h =
    record { by = come_as l (outset nb ue) f g x y v w b c k told same air on h.by; in_life = h.in_life }

-- ---- a step since

pub record LivesOnIn (l : ℕ) (nb ue : End) (told : List Record) (submitted : Side → ℕ
    → List (List ℕ)) (said : ℕ → Side → List AccountEntry) (set : Bool) (s : Step) (k : Link) : Type 0 where
  pub more : List Record
  pub out_is : (step s k).out ≡ k.out ++ more
  pub alone : TellAlone l more
  pub log_alone : LogAlone more
  pub lived : LivedIn l nb ue (told ++ more)
      (λ side n. submitted side n ++ (handed_in side n s k ++ looped_at side n more))
      (λ bits from. said bits from ++ told_by_step bits l from s more) (set || sets l s) (step s k)

abbrev Goes : ℕ → Bool → List Record → (Side → ℕ → List (List ℕ)) → Whats → Air → Air → Type 0
Goes l set told given ws a b = GoesBehind l (setting set) Unread told given ws a b

goes_in : (l : ℕ) (told : List Record) (submitted : Side → ℕ → List (List ℕ)) (said : ℕ → Side
    → List AccountEntry) (set whole : Bool) (m : Link) (a : Air) (x : GoesByAir l told submitted said set m a)
    → AreInLife x.steps
    → (whole ≡ false → set ≡ false)
    → Goes l whole told submitted (λ bits from. whats from l bits x.steps a) a (lives x.steps a)
goes_in l told submitted said set whole m a x own off = record {
  steps = x.steps;
  living = x.living;
  told_is = x.told_is;
  submitted_is = x.submitted_is;
  sets_none = λ e. x.sets_none (off e);
  stays = λ e. own;
  reads = λ bits from sent fits. absurd fits;
  logs = λ sent fits. absurd fits;
  along = λ off sent fits. absurd fits;
  whats_are = λ bits from. refl;
  air_is = refl;
}

lived_by : (l : ℕ) (nb ue : End) (told : List Record) (submitted : Side → ℕ → List (List ℕ)) (said : ℕ → Side
    → List AccountEntry) (set : Bool) (m : Link) {ws : Whats} (b : Air)
    (x : Goes l set told submitted ws (outset nb ue) b)
    → ((bits : ℕ) (from : Side) → happened bits l from x.steps (outset nb ue) ≡ said bits from)
    → log_of x.steps (outset nb ue) ≡ logged no_flight told → IsOn m b
    → LivedIn l nb ue told submitted said set m
lived_by l nb ue told submitted said set m {ws} b x happens logs on = record {
  by = record {
    steps = x.steps;
    living = x.living;
    told_is = x.told_is;
    logged_is = logs;
    submitted_is = x.submitted_is;
    happened_is = happens;
    sets_none = x.sets_none;
    on = subst (IsOn m) (sym x.air_is) on;
  };
  in_life = x.stays refl;
}

pub steps_live_in : (l : ℕ) (nb ue : End) (told : List Record) (submitted : Side → ℕ → List (List ℕ)) (said : ℕ → Side
    → List AccountEntry) (set : Bool) (s : Step) (k : Link) → IsStepSince l s → is_handover_step s ≡ false
    → LivedIn l nb ue told submitted said set k → LivesOnIn l nb ue told submitted said set s k
unfolding goes_in
steps_live_in l nb ue told submitted said set s k g own h =
    let a = outset nb ue in
    let b = lives h.by.steps a in
    let m = step s k in
    let y = steps_stay l s k b g h.by.on in
    let x = y.goes in
    let sets_any = set || sets l s in
    let more : Side → ℕ → List (List ℕ) = λ side n. handed_in side n s k ++ looped_at side n x.more in
    let tells : ℕ → Side → List AccountEntry = λ bits from. told_by_step bits l from s x.more in
    let before = goes_in l told submitted said set sets_any k a h.by h.in_life
    (λ e. (either_off set (sets l s) e).0) in
    let behind = goes_in l x.more more tells (sets l s) sets_any m b x.by
    (y.in_life own) (λ e. (either_off set (sets l s) e).1) in
    let whole = behind_then l (setting sets_any) Unread Unread told x.more submitted more a b (lives x.by.steps b)
    refl (λ sent fits. absurd fits) before behind in
    let happens : (bits : ℕ) (from : Side) → happened bits l from whole.steps a ≡ said bits from ++ tells bits from =
    λ bits from.
    happens_then bits from l (setting sets_any) Unread Unread told x.more submitted more a b (lives x.by.steps b)
    refl (λ sent fits. absurd fits) before behind
    ∙ (ap (λ (hs : List AccountEntry). hs ++ happened bits l from x.by.steps b) (h.by.happened_is bits from)
    ∙ ap (λ (hs : List AccountEntry). said bits from ++ hs) (x.by.happened_is bits from)) in
    let logs : log_of whole.steps a ≡ logged no_flight (told ++ x.more) =
    logs_then l (setting sets_any) Unread Unread told x.more submitted more a b (lives x.by.steps b) refl
    (λ sent fits. absurd fits) before behind
    ∙ (ap (λ (hs : List LogEntry). hs ++ log_of x.by.steps b) h.by.logged_is
    ∙ (ap (λ (hs : List LogEntry). logged no_flight told ++ hs) x.by.logged_is
    ∙ sym (logged_both told x.more x.log_alone))) in
    record {
      more = x.more;
      out_is = x.out_is;
      alone = x.alone;
      log_alone = x.log_alone;
      lived = lived_by l nb ue (told ++ x.more) (λ side n. submitted side n ++ more side n)
          (λ bits from. said bits from ++ tells bits from) sets_any m (lives x.by.steps b) whole happens logs x.by.on;
    }

-- ---- where a life begins

pub record LivesAnew (l : ℕ) (nb ue : End) (keys : Keys) (k : Link) (a : Air) : Type 0 where
  pub moves : MovesOn l keys k a
  pub lived : LivedIn l (after_call a.nb.end (Move keys)) (after_call a.ue.end (Move keys)) moves.behind
      (λ side n. looped_at side n moves.behind) (λ bits from. entries_in bits l from [] moves.behind) false
      (step (Calls (HandsOver keys)) k)

pub lives_anew : (l : ℕ) (nb ue : End) (told : List Record) (submitted : Side → ℕ → List (List ℕ)) (said : ℕ → Side
    → List AccountEntry) (set : Bool) (keys : Keys) (k : Link) (h : LivedIn l nb ue told submitted said set k)
    → LivesAnew l nb ue keys k (lives h.by.steps (outset nb ue))
lives_anew l nb ue told submitted said set keys k h =
    let m = handovers_move l keys k (lives h.by.steps (outset nb ue)) h.by.on in
    record { moves = m; lived = record { by = m.by; in_life = m.in_life } }
