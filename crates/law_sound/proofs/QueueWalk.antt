-- Along the records of a line that is no handover and submits no SDU, on a channel whose bearers aren't of acknowledged
-- data, what is kept of the flows stays beside both ends step by step, and each record is right on the channel.
use Rattle.std.proofs.Common.{◌≡◌, ◌≤◌, ℕ, Bool, false, ◌||◌, List, [], ◌∷◌, ◌++◌, length, None, append-nil}
use Rattle.std.proofs.Common.{append_assoc, refl, ap, sym, subst, ◌∙◌, ◌⊎◌, inl, inr, arith}
use Rattle.air_record.specs.declared.record.Record.{Record}
use Rattle.air_record.specs.Submissions.{submitted_by}
use Rattle.air_link.specs.Link.{Link}
use Rattle.air_run.specs.Run.{behind_line as link_line}
use Rattle.air_text.specs.Groups.{Group}
use Rattle.l2_types.specs.declared.side.Side.{Side}
use Rattle.promises.specs.Arrival.{entries_ended}
use Rattle.promises.specs.Delivery.{forges, sets_timer}
use Rattle.promises.specs.Flows.{looped_at}
use Rattle.promises.specs.Parts.{is_handover, part_of_line}
use Rattle.law_deliver.specs.AmChannel.Lives.{AirStep, InLife, Moves, AreLiving, lives}
use Rattle.law_deliver.specs.AmFlow.Air.{Air, happens}
use Rattle.law_run.specs.AnyCalls.Runs.{Step as LinkStep}
use Rattle.law_run.specs.Order.{state_behind, IsRight, KeepsOrder}
use Rattle.law_run.specs.TwoEnds.Along.{AreAlong}
use Rattle.law_run.specs.TwoEnds.Coming.{none_yet}
use Rattle.law_run.specs.TwoEnds.Going.{IsStepSince, handed_in}
use Rattle.law_run.specs.TwoEnds.Logs.{Flight, flight_in, logged}
use Rattle.law_run.specs.TwoEnds.On.{IsOn}
use Rattle.law_run.specs.TwoEnds.Staying.{Stays, AreInLife, is_handover_step}
use Rattle.law_run.proofs.BearerWalk.{adds_one}
use Rattle.law_run.proofs.Flowing.{Sdus, Happened, StepLives, GoesThrough, PartLives, looped_then, line_stays}
use Rattle.law_run.proofs.Past.{behind as past_behind, link_behind}
use Rattle.law_run.proofs.TwoEnds.Along.{flight_more, nothing_looped}
use Rattle.law_run.proofs.TwoEnds.Advancing.{steps_stay}
use Rattle.law_run.proofs.TwoEnds.Coming.{same_on}
use Rattle.law_sound.proofs.GroupCarrying.{is_submission, hands_none, drained_silent, drained_loops}
use Rattle.law_sound.proofs.QueueAt.{AreRightRecords, IsBase, IsQueuedAt, TellsStep}
use Rattle.law_sound.proofs.QueueRecords.{right_then}
use Rattle.law_sound.proofs.QueueSteps.{queue_step, queue_silent}
use Rattle.law_sound.proofs.StepCarrying.{AsLooped, WithLooped, HandsOne, loops_with, looped_before, none_given}
use Rattle.law_sound.proofs.StepCarrying.{along_or_one}

module _ (l : ℕ) (low : l ≤ 10) (newer : List Group) (now : Group) (past : List Group)
    (none : submitted_by now.line ≡ None) (Base : Flight → List Record → List Record → Air → Type 0)
    (base : IsBase l low newer now past none Base) where
  abbrev Stands : List Record → Air → Type 0
  Stands told a = IsQueuedAt l low newer now past none told a

  -- ---- steps of a life

  -- behind records more
  record GoneTo (sent : Flight) (told more others : List Record) (a : Air) : Type 0 where
    stands : Stands (told ++ more) a
    known : Base (flight_in more sent) (told ++ more) others a
    right : AreRightRecords l now past told more

  silent_gone : (sent : Flight) (told more others : List Record) (a : Air) → now.events ≡ told ++ (more ++ others)
      → logged sent more ≡ [] → ((side : Side) (n : ℕ) → looped_at side n more ≡ []) → Stands told a
      → Base sent told (more ++ others) a → GoneTo sent told more others a
  silent_gone sent told more others a are logs loops h b =
      let x = queue_silent l low newer now past none told more a sent logs loops h in
      record { stands = x.0; known = base.silent sent told more others a are logs b; right = x.1 }

  steps_gone : (steps : List AirStep) (sent : Flight) (told more others : List Record) (a : Air)
      → now.events ≡ told ++ (more ++ others) → AreLiving l a steps → AreInLife steps → AreAlong sent steps a more
      → Stands told a → Base sent told (more ++ others) a → GoneTo sent told more others (lives steps a)
  steps_gone [] sent told more others a are living life along h b =
      silent_gone sent told more others a are along.0 along.1 h b
  steps_gone (InLife s ∷ steps) sent told more others a are living life along h b =
      let first = along.now in
      let later = along.later in
      let parted : more ++ others ≡ first ++ (later ++ others) =
      ap (λ (zs : List Record). zs ++ others) along.are ∙ append_assoc first later others in
      let so : now.events ≡ told ++ (first ++ (later ++ others)) = are ∙ ap (λ (zs : List Record). told ++ zs) parted in
      let stood = subst (λ (zs : List Record). Base sent told zs a) parted b in
      let tells : TellsStep l low newer now past none a s sent first = record {
        given = living.0;
        logs = along.logs;
        looped = along.looped;
        tells = along.tells;
      } in
      let x = queue_step l low newer now past none told first a s sent tells
      (base.knows sent told (first ++ (later ++ others)) a stood) h in
      let y = steps_gone steps (flight_in first sent) (told ++ first) later others (happens a s)
      (so ∙ sym (append_assoc told first (later ++ others))) living.1 life along.others x.0
      (base.one_step sent told first (later ++ others) a s so tells stood) in
      let all : (told ++ first) ++ later ≡ told ++ more =
      append_assoc told first later ∙ ap (λ (zs : List Record). told ++ zs) (sym along.are) in
      let b' = lives steps (happens a s) in
      record {
        stands = subst (λ (zs : List Record). Stands zs b') all y.stands;
        known = subst (λ (t : Flight). Base t (told ++ more) others b')
            (flight_more first later sent ∙ ap (λ (zs : List Record). flight_in zs sent) (sym along.are))
            (subst (λ (zs : List Record). Base (flight_in later (flight_in first sent)) zs others b') all y.known);
        right = subst (AreRightRecords l now past told) (sym along.are)
            (right_then l now past none first later told x.1 y.right);
      }
  steps_gone (Moves keys ∷ steps) sent told more others a are living life along h b = absurd life

  -- ---- a line

  -- behind some records of it, before the others
  record QueuedTo (start : Flight) (told others : List Record) (a : Air) : Type 0 where
    stands : Stands told a
    known : Base (flight_in told start) told others a
    right : AreRightRecords l now past [] told

  gone_on : (start : Flight) (told more others : List Record) (a b : Air) → QueuedTo start told (more ++ others) a
      → GoneTo (flight_in told start) told more others b → QueuedTo start (told ++ more) others b
  gone_on start told more others a b q x = record {
    stands = x.stands;
    known = subst (λ (t : Flight). Base t (told ++ more) others b) (flight_more told more start) x.known;
    right = right_then l now past none told more [] q.right x.right;
  }

  module _ (start : Flight) where
    -- as far as only the loop hands in SDUs
    record Live (told : List Record) (handed : Sdus) (flown : Happened) (set : Bool) (k : Link) : Type 0 where
      air : Air
      on : IsOn k air
      looped : WithLooped told handed
      queued : AsLooped told handed → (others : List Record) → now.events ≡ told ++ others
          → QueuedTo start told others air

    step_gone : (told others : List Record) (s : LinkStep) (k : Link) (air : Air) (x : Stays l s k air)
        → AreInLife x.goes.by.steps → now.events ≡ told ++ (x.goes.more ++ others)
        → ((side : Side) (n : ℕ) → length (handed_in side n s k) ≡ 0) → QueuedTo start told (x.goes.more ++ others) air
        → GoneTo (flight_in told start) told x.goes.more others (lives x.goes.by.steps air)
    step_gone told others s k air x life are nothing q = by (along_or_one l s k air x.goes)
      where
        by : ((sent : Flight) → AreAlong sent x.goes.by.steps air x.goes.more) ⊎ HandsOne s k
            → GoneTo (flight_in told start) told x.goes.more others (lives x.goes.by.steps air)
        by (inl along) =
            steps_gone x.goes.by.steps (flight_in told start) told x.goes.more others air are x.goes.by.living life
            (along (flight_in told start)) q.stands q.known
        by (inr h) = let no = nothing h.side h.n in let one = h.one in absurd (omega (arith, no, one))

    live_steps : (told : List Record) (handed : Sdus) (flown : Happened) (set : Bool) (s : LinkStep) (k : Link)
        → IsStepSince l s → is_handover_step s ≡ false → Live told handed flown set k
        → StepLives l Live told handed flown set s k
    live_steps told handed flown set s k own here h =
        let x = steps_stay l s k h.air own h.on in
        let by = x.goes.by in
        let more = x.goes.more in
        let given = λ (side : Side) (n : ℕ). handed_in side n s k in
        record {
          more = more;
          out_is = x.goes.out_is;
          alone = x.goes.alone;
          log_alone = x.goes.log_alone;
          lived = record {
            air = lives by.steps h.air;
            on = by.on;
            looped = loops_with told more handed given h.looped;
            queued = λ just others are.
                let so = are ∙ append_assoc told more others in
                let q = h.queued (looped_before told more handed given h.looped just) (more ++ others) so in
                gone_on start told more others h.air (lives by.steps h.air) q
                (step_gone told others s k h.air x (x.in_life here) so
                (none_given told more handed given h.looped just) q);
          };
        }

    live_same : (told told' : List Record) (handed handed' : Sdus) (flown flown' : Happened) (set set' : Bool)
        (k : Link) → told ≡ told' → ((side : Side) (n : ℕ) → handed side n ≡ handed' side n)
        → Live told handed flown set k → Live told' handed' flown' set' k
    live_same told told' handed handed' flown flown' set set' k e f h =
        subst (λ (zs : List Record). Live zs handed' flown' set' k) e (record {
          air = h.air;
          on = h.on;
          looped = λ side n. subst (λ (xs : List (List ℕ)). length (looped_at side n told) ≤ length xs) (f side n)
              (h.looped side n);
          queued = λ just others are. h.queued (λ side n. ap length (f side n) ∙ just side n) others are;
        })

    through : GoesThrough l Live
    through = record {
      same = λ told told' handed handed' flown flown' set set' k e f a g h.
          live_same told told' handed handed' flown flown' set set' k e f h;
      unseen = λ told handed flown set k out h. record {
        air = h.air;
        on = same_on k (record k { out = out }) h.air refl refl refl h.on;
        looped = h.looped;
        queued = h.queued;
      };
      steps = live_steps;
    }

  -- ---- the whole line

  -- behind all its records
  pub record LineQueues : Type 0 where
    pub air : Air
    pub on : IsOn (link_behind (now ∷ past)) air
    pub stands : Stands now.events air
    pub right : AreRightRecords l now past [] now.events

  pub line_queues : (start : Flight) (a : Air) → IsRight past now → KeepsOrder past → adds_one l now.line ≡ false
      → forges now.line ≡ false → is_handover now.line ≡ false → is_submission now.line ≡ false
      → IsOn (link_behind past) a → Stands [] a → Base start [] now.events a → LineQueues
  line_queues start a right order other own here unsubmitted on h b =
      let m = link_line now.line (state_behind past) in
      let live : Live start [] none_yet (λ bits from. []) false (link_behind past) = record {
        air = a;
        on = on;
        looped = λ side n. let none = ap length (nothing_looped side n) in omega (arith, none);
        queued = λ just others are.
            record { stands = h; known = subst (λ (zs : List Record). Base start [] zs a) are b; right = tt };
      } in
      let x : PartLives l (Live start) (through start) [] none_yet (λ bits from. []) (false || sets_timer l now.line)
      (entries_ended now.line) (part_of_line now.line) m =
      line_stays l (Live start) (through start) [] none_yet (λ bits from. []) false now.line
      (state_behind past).rules.keys (link_behind past) (past_behind past order).nothing right.in_range other own here
      live in
      let events_are : now.events ≡ x.more ++ x.rest = right.events_are ∙ x.out_is in
      let all : now.events ≡ x.more ++ (x.rest ++ []) =
      events_are ∙ ap (λ (zs : List Record). x.more ++ zs) (sym (append-nil x.rest)) in
      let just : AsLooped x.more _ = λ (side : Side) (n : ℕ).
      ap length (ap (λ (xs : List (List ℕ)). xs ++ looped_at side n m.out)
      (hands_none now.line unsubmitted side n m.out)
      ∙ (ap (looped_at side n) x.out_is
      ∙ (looped_then side n x.more x.rest
      ∙ (ap (λ (xs : List (List ℕ)). looped_at side n x.more ++ xs) (drained_loops x.rest x.rest_ends side n)
      ∙ append-nil (looped_at side n x.more))))) in
      let q = x.lived.queued just (x.rest ++ []) all in
      let last = gone_on start x.more x.rest [] x.lived.air x.lived.air q
      (silent_gone (flight_in x.more start) x.more x.rest [] x.lived.air all
      (drained_silent (flight_in x.more start) x.rest x.rest_ends) (drained_loops x.rest x.rest_ends) q.stands
      q.known) in
      record {
        air = x.lived.air;
        on = same_on m (link_behind (now ∷ past)) x.lived.air refl refl refl x.lived.on;
        stands = subst (λ (zs : List Record). Stands zs x.lived.air) (sym events_are) last.stands;
        right = subst (AreRightRecords l now past []) (sym events_are) last.right;
      }
