-- Through every line since its bearers came the steps of a channel go on, with what is submitted and what is told.
use Rattle.std.proofs.Common.{◌≡◌, ◌≤◌, ℕ, zero, suc, ◌==◌, Bool, true, false, ◌||◌, if◌then◌else◌, Option, Some, None}
use Rattle.std.proofs.Common.{List, [], ◌∷◌, ◌++◌, map, append-nil, append_assoc, refl, ap, sym, subst, ◌∙◌}
use Rattle.std.specs.Prelude.{◌&&◌, not, option_map}
use Rattle.std.specs.List.{filter}
use Rattle.std.proofs.lemmas.Bool.{eq-eqb}
use Rattle.std.proofs.lemmas.List.{map-append}
use Rattle.std.proofs.lemmas.List.Elements.{filter-append}
use Rattle.air_link.specs.Draining.{drain_tti, carried, receivers_expire, is_drained}
use Rattle.air_link.specs.Lines.{no_place, submitting}
use Rattle.air_link.specs.Link.{Link, end_of}
use Rattle.air_record.specs.declared.line.Line.{Line}
use Rattle.air_record.specs.declared.line.Line.TheVariants as lines
use Rattle.air_record.specs.declared.record.Record.{Record}
use Rattle.air_run.specs.Draining.{shown, Drained, at_once, behind, ttis, senders_unless, round, left_by, done_by}
use Rattle.air_run.specs.Draining.{round_told, rounds, budget, drained}
use Rattle.air_record.specs.declared.record.Record.TheVariants as records
use Rattle.air_run.specs.Playing.{keys_or_none, acted, played}
use Rattle.air_text.specs.Ranges.{IsInRange}
use Rattle.law_deliver.specs.AmChannel.Delivery.{accepted}
use Rattle.eps_sec.specs.declared.Keys.{Keys}
use Rattle.l2_bits.specs.declared.fault.SubmitRefusal.{SubmitRefusal}
use Rattle.l2_node.specs.Submitting.{refusal}
use Rattle.l2_types.specs.declared.side.Side.{Side}
use Rattle.l2_types.specs.declared.side.Side.TheVariants.{Nb, Ue}
use Rattle.law_run.specs.AnyCalls.Calls as calls
use Rattle.bearer_types.specs.Sides.{is_same}
use Rattle.promises.specs.Records.{is_looped, events_of, sdu_of}
use Rattle.law_run.proofs.AnyCalls.Going.{told_both}
use Rattle.law_run.specs.AnyCalls.Runs.{Step, Tti, Drains, Submit, Calls, step}
use Rattle.law_run.specs.AnyCalls.Told.{refusals}
use Rattle.law_run.proofs.AnyCalls.Calling.{submitting_adds}
use Rattle.law_run.specs.TwoEnds.Arrival.{renewals_in, told_by_step}
use Rattle.promises.specs.Arrival.{entries_in, entries_ended}
use Rattle.law_words.specs.Arrivals.{AccountEntry}
use Rattle.law_run.specs.TwoEnds.Going.{TellAlone, sets, handed_in as handed_by, IsStepSince}
use Rattle.law_run.specs.TwoEnds.Logs.{LogEntry, no_flight, logged, LogAlone, last_in, flight_in}
use Rattle.law_run.proofs.TwoEnds.Along.{logged_more, nothing_looped}
use Rattle.law_run.proofs.TwoEnds.Going.{logged_both}
use Rattle.law_run.proofs.TwoEnds.Going.{tells_more}
use Rattle.law_run.specs.TwoEnds.Staying.{is_handover_step}
use Rattle.law_run.proofs.TwoEnds.Showing.{in_then}
use Rattle.mac_pdu.specs.declared.item.Direction.{Direction}
use Rattle.um_losses.specs.declared.cursor.Cursor.{Cursor}
use Rattle.um_losses.specs.declared.flow.Happening.{Happening}
use Rattle.um_losses.specs.declared.flow.Happening.TheVariants.{LifeRestarted}
use Rattle.um_losses.specs.Told.{told_in, place_behind}
use Rattle.test_loop.specs.declared.Mode.TheVariants.{Off, A, B}
use Rattle.promises.specs.Delivery.{forges, sets_timer}
use Rattle.promises.specs.Parts.{is_handover, Part, Submits, Rests, part_of_line}
use Rattle.promises.specs.Flows.{handed_in, looped_at}
use Rattle.law_run.proofs.BearerWalk.{adds_one}

-- the SDUs of each side and channel
abbrev pub Sdus : Type 0
Sdus = Side → ℕ → List (List ℕ)

-- what happens to the PDUs that go from each side, by the bits of PDCP's numbers
abbrev pub Happened : Type 0
Happened = ℕ → Side → List AccountEntry

-- what is told of an unacknowledged flow from each side
abbrev pub Haps : Type 0
Haps = Side → List Happening

-- what a line says of each flow
abbrev pub word_of : Line → List Happening
word_of (lines.Handover user rrc integrity) = LifeRestarted ∷ []
word_of line = []

abbrev pub with_word : List Happening → Haps → Haps
with_word word haps from = haps from ++ word

-- ---- SDUs that come back through the test loop

pub looped_then : (side : Side) (n : ℕ) (xs ys : List Record)
    → looped_at side n (xs ++ ys) ≡ looped_at side n xs ++ looped_at side n ys
looped_then Nb n xs ys = refl
looped_then Ue n xs ys = ap (map sdu_of) (filter-append (is_looped n) xs ys)
    ∙ map-append sdu_of (filter (is_looped n) xs) (filter (is_looped n) ys)

no_more : (side : Side) (n : ℕ) (xs : List (List ℕ)) → xs ++ looped_at side n [] ≡ xs
no_more side n xs = ap (λ (ys : List (List ℕ)). xs ++ ys) (nothing_looped side n) ∙ append-nil xs

both_looped : (side : Side) (n : ℕ) (all : List (List ℕ)) (xs ys : List Record)
    → (all ++ looped_at side n xs) ++ looped_at side n ys ≡ all ++ looped_at side n (xs ++ ys)
both_looped side n all xs ys = append_assoc all (looped_at side n xs) (looped_at side n ys)
    ∙ ap (λ (zs : List (List ℕ)). all ++ zs) (sym (looped_then side n xs ys))

-- ---- lines

-- what a `submit` line hands in
submit_handed : (r : Option SubmitRefusal) (side s : Side) (n lcid : ℕ) (octets : List ℕ)
    → handed_in side n (Submits s lcid octets) (refusals s lcid (option_map no_place r))
    ≡ (if is_same s side then accepted r (lcid == n) octets else [])
submit_handed None Nb Nb n lcid octets = refl
submit_handed None Nb Ue n lcid octets = refl
submit_handed None Ue Nb n lcid octets = refl
submit_handed None Ue Ue n lcid octets = refl
submit_handed (Some why) Nb Nb n lcid octets =
    ap (λ (b : Bool). if not b && lcid == n then octets ∷ [] else []) (eq-eqb lcid lcid refl)
submit_handed (Some why) Nb Ue n lcid octets = refl
submit_handed (Some why) Ue Nb n lcid octets = refl
submit_handed (Some why) Ue Ue n lcid octets =
    ap (λ (b : Bool). if not b && lcid == n then octets ∷ [] else []) (eq-eqb lcid lcid refl)

-- how a drain ends is told of no end
unlooped_end : (side : Side) (n : ℕ) (said : List Record) (done : ℕ)
    → looped_at side n (said ++ records.Drained done ∷ []) ≡ looped_at side n said
unlooped_end side n said done = looped_then side n said (records.Drained done ∷ [])
    ∙ ap (λ (xs : List (List ℕ)). looped_at side n said ++ xs) (none side)
    ∙ append-nil (looped_at side n said)
  where
    none : (s : Side) → looped_at s n (records.Drained done ∷ []) ≡ []
    none Nb = refl
    none Ue = refl

untold_end : (side : Side) (said : List Record) (done : ℕ)
    → events_of side (said ++ records.Drained done ∷ []) ≡ events_of side said
untold_end side said done = told_both side said (records.Drained done ∷ []) (events_of side said) [] refl refl
    ∙ append-nil (events_of side said)

-- ---- what holds through any steps

or_false : (b : Bool) → (b || false) ≡ b
or_false true = refl
or_false false = refl

-- ---- what records tell of the air

pub tells_both : (l : ℕ) (f g : List Record) → TellAlone l g → (bits : ℕ) (from : Side)
    → entries_in bits l from [] (f ++ g) ≡ entries_in bits l from [] f ++ entries_in bits l from [] g
tells_both l f g h bits from = tells_more bits l from [] f g
    ∙ ap (λ (hs : List AccountEntry). entries_in bits l from [] f ++ hs) (h bits from (last_in f []))

alone_both : (l : ℕ) (f g : List Record) → TellAlone l f → TellAlone l g → TellAlone l (f ++ g)
alone_both l f g p q bits from sent =
    tells_more bits l from sent f g
    ∙ (ap (λ (hs : List AccountEntry). hs ++ entries_in bits l from (last_in f sent) g) (p bits from sent)
    ∙ (ap (λ (hs : List AccountEntry). entries_in bits l from [] f ++ hs) (q bits from (last_in f sent))
    ∙ sym (tells_both l f g q bits from)))

both_flown : (l : ℕ) (all : List AccountEntry) (f g : List Record) → TellAlone l g → (bits : ℕ) (from : Side)
    → (all ++ entries_in bits l from [] f) ++ entries_in bits l from [] g ≡ all ++ entries_in bits l from [] (f ++ g)
both_flown l all f g h bits from =
    append_assoc all (entries_in bits l from [] f) (entries_in bits l from [] g)
    ∙ ap (λ (hs : List AccountEntry). all ++ hs) (sym (tells_both l f g h bits from))

unflown_end : (bits l : ℕ) (from : Side) (said : List Record) (done : ℕ)
    → entries_in bits l from [] (said ++ records.Drained done ∷ []) ≡ entries_in bits l from [] said
unflown_end bits l from said done =
    tells_more bits l from [] said (records.Drained done ∷ [])
    ∙ (ap (λ (hs : List AccountEntry). entries_in bits l from [] said ++ hs) (none (last_in said []))
    ∙ append-nil (entries_in bits l from [] said))
  where
    none : (sent : List ℕ) → entries_in bits l from sent (records.Drained done ∷ []) ≡ []
    none sent = refl

-- and in one order
log_alone_both : (f g : List Record) → LogAlone f → LogAlone g → LogAlone (f ++ g)
log_alone_both f g p q sent =
    logged_more sent f g
    ∙ (ap (λ (hs : List LogEntry). hs ++ logged (flight_in f sent) g) (p sent)
    ∙ (ap (λ (hs : List LogEntry). logged no_flight f ++ hs) (q (flight_in f sent)) ∙ sym (logged_both f g q)))

unlogged_end : (said : List Record) (done : ℕ)
    → logged no_flight (said ++ records.Drained done ∷ []) ≡ logged no_flight said
unlogged_end said done =
    logged_more no_flight said (records.Drained done ∷ []) ∙ append-nil (logged no_flight said)

unsaid_end : (d : Direction) (l : ℕ) (place : Cursor) (said : List Record) (done : ℕ)
    → told_in d l place (said ++ records.Drained done ∷ []) ≡ told_in d l place said
unsaid_end d l place said done =
    in_then d l place said (records.Drained done ∷ [])
    ∙ ap (λ (hs : List Happening). told_in d l place said ++ hs) (none (place_behind place said))
    ∙ append-nil (told_in d l place said)
  where
    none : (c : Cursor) → told_in d l c (records.Drained done ∷ []) ≡ []
    none c = refl

-- how a drain ends, behind all else, or nothing
abbrev pub EndsDrain : List Record → Type 0
EndsDrain [] = Unit {0}
EndsDrain (records.Drained done ∷ []) = Unit {0}
EndsDrain told = ⊥

-- of what is known of a link by what was told, submitted, what went by air and what was set since it began: a step goes
-- on with it
pub record StepLives (l : ℕ) (Live : List Record → Sdus → Happened → Bool → Link
    → Type 0) (told : List Record) (handed : Sdus) (flown : Happened) (set : Bool) (s : Step) (k : Link) : Type 0
  where
    pub more : List Record
    pub out_is : (step s k).out ≡ k.out ++ more
    pub alone : TellAlone l more
    pub log_alone : LogAlone more
    pub lived : Live (told ++ more) (λ side n. handed side n ++ (handed_by side n s k ++ looped_at side n more))
        (λ bits from. flown bits from ++ told_by_step bits l from s more) (set || sets l s) (step s k)

-- and so does each but a handover
pub record GoesThrough (l : ℕ) (Live : List Record → Sdus → Happened → Bool → Link → Type 0) : Type 0 where
  pub same : (told told' : List Record) (handed handed' : Sdus) (flown flown' : Happened) (set set' : Bool) (k : Link)
      → told ≡ told' → ((side : Side) (n : ℕ) → handed side n ≡ handed' side n)
      → ((bits : ℕ) (from : Side) → flown bits from ≡ flown' bits from) → set ≡ set' → Live told handed flown set k
      → Live told' handed' flown' set' k
  pub unseen : (told : List Record) (handed : Sdus) (flown : Happened) (set : Bool) (k : Link) (out : List Record)
      → Live told handed flown set k → Live told handed flown set (record k { out = out })
  pub steps : (told : List Record) (handed : Sdus) (flown : Happened) (set : Bool) (s : Step) (k : Link)
      → IsStepSince l s → is_handover_step s ≡ false → Live told handed flown set k
      → StepLives l Live told handed flown set s k

module _ (l : ℕ) (Live : List Record → Sdus → Happened → Bool → Link → Type 0) (through : GoesThrough l Live) where
  -- steps that hand in nothing
  record GoesOn (told : List Record) (handed : Sdus) (flown : Happened) (set : Bool) (k m : Link) : Type 0 where
    more : List Record
    out_is : m.out ≡ k.out ++ more
    alone : TellAlone l more
    log_alone : LogAlone more
    lived : Live (told ++ more) (λ side n. handed side n ++ looped_at side n more)
        (λ bits from. flown bits from ++ entries_in bits l from [] more) set m

  goes_by : (told : List Record) (handed : Sdus) (flown : Happened) (set : Bool) (s : Step) (k : Link)
      → IsStepSince l s → is_handover_step s ≡ false → sets l s ≡ false → renewals_in s ≡ []
      → ((side : Side) (n : ℕ) → handed_by side n s k ≡ []) → Live told handed flown set k
      → GoesOn told handed flown set k (step s k)
  goes_by told handed flown set s k g own unset stays none h =
      let x = through.steps told handed flown set s k g own h in
      record {
        more = x.more;
        out_is = x.out_is;
        alone = x.alone;
        log_alone = x.log_alone;
        lived = through.same _ _ _ _ _ _ (set || sets l s) set (step s k) refl
            (λ side n. ap (λ (ys : List (List ℕ)). handed side n ++ (ys ++ looped_at side n x.more)) (none side n))
            (λ bits from. ap (λ (hs : List AccountEntry). flown bits from ++ (hs ++ entries_in bits l from [] x.more))
            stays)
            (ap (λ (b : Bool). set || b) unset ∙ or_false set) x.lived;
      }

  still : (told : List Record) (handed : Sdus) (flown : Happened) (set : Bool) (k m : Link) → m.out ≡ k.out
      → Live told handed flown set m → GoesOn told handed flown set k m
  still told handed flown set k m out h = record {
    more = [];
    out_is = out ∙ sym (append-nil k.out);
    alone = λ bits from sent. refl;
    log_alone = λ sent. refl;
    lived = through.same told (told ++ []) handed _ flown _ set set m (sym (append-nil told))
        (λ side n. sym (no_more side n (handed side n))) (λ bits from. sym (append-nil (flown bits from))) refl h;
  }

  then_goes : (told : List Record) (handed : Sdus) (flown : Happened) (set : Bool) (k m o : Link)
      (g : GoesOn told handed flown set k m)
      → GoesOn (told ++ g.more) (λ side n. handed side n ++ looped_at side n g.more)
      (λ bits from. flown bits from ++ entries_in bits l from [] g.more) set m o → GoesOn told handed flown set k o
  then_goes told handed flown set k m o g q = record {
    more = g.more ++ q.more;
    out_is = q.out_is ∙ ap (λ (x : List Record). x ++ q.more) g.out_is ∙ append_assoc k.out g.more q.more;
    alone = alone_both l g.more q.more g.alone q.alone;
    log_alone = log_alone_both g.more q.more g.log_alone q.log_alone;
    lived = through.same _ (told ++ (g.more ++ q.more)) _ _ _ _ set set o (append_assoc told g.more q.more)
        (λ side n. both_looped side n (handed side n) g.more q.more)
        (λ bits from. both_flown l (flown bits from) g.more q.more q.alone bits from) refl q.lived;
  }

  tti_goes : (told : List Record) (handed : Sdus) (flown : Happened) (set : Bool) (grant : ℕ) (k : Link)
      → grant ≤ 9422 → Live told handed flown set k → GoesOn told handed flown set k (drain_tti grant k)
  tti_goes told handed flown set grant k within h =
      goes_by told handed flown set (Drains grant) k within refl refl refl (λ side n. refl) h

  receivers_go : (told : List Record) (handed : Sdus) (flown : Happened) (set : Bool) (k : Link)
      → Live told handed flown set k → GoesOn told handed flown set k (receivers_expire k)
  receivers_go told handed flown set k h =
      goes_by told handed flown set (Calls calls.ReceiversExpire) k tt refl refl refl (λ side n. refl) h

  senders_go : (b : Bool) (told : List Record) (handed : Sdus) (flown : Happened) (set : Bool) (k : Link)
      → Live told handed flown set k → GoesOn told handed flown set k (senders_unless b k)
  senders_go true told handed flown set k h = still told handed flown set k k refl h
  senders_go false told handed flown set k h =
      goes_by told handed flown set (Calls calls.SendersExpire) k tt refl refl refl (λ side n. refl) h

  round_goes : (told : List Record) (handed : Sdus) (flown : Happened) (set : Bool) (grant : ℕ) (k : Link)
      → grant ≤ 9422 → Live told handed flown set k → GoesOn told handed flown set k (round grant k)
  round_goes told handed flown set grant k within h =
      let m = drain_tti grant k in
      let n = receivers_expire m in
      let to_m = tti_goes told handed flown set grant k within h in
      let to_n = then_goes told handed flown set k m n to_m (receivers_go (told ++ to_m.more) _ _ set m to_m.lived) in
      then_goes told handed flown set k n (senders_unless (carried m) n) to_n
      (senders_go (carried m) (told ++ to_n.more) _ _ set n to_n.lived)

  -- ---- a part of a drain

  record DrainLives (told : List Record) (handed : Sdus) (flown : Happened) (set : Bool) (d : Drained) : Type 0 where
    nothing : d.link.out ≡ []
    alone : TellAlone l d.journal
    log_alone : LogAlone d.journal
    lived : Live (told ++ d.journal) (λ side n. handed side n ++ looped_at side n d.journal)
        (λ bits from. flown bits from ++ entries_in bits l from [] d.journal) set d.link

  none_drained : (told : List Record) (handed : Sdus) (flown : Happened) (set : Bool) (k : Link) → k.out ≡ []
      → Live told handed flown set k → DrainLives told handed flown set (at_once k)
  none_drained told handed flown set k nothing h = record {
    nothing = nothing;
    alone = λ bits from sent. refl;
    log_alone = λ sent. refl;
    lived = through.same told (told ++ []) handed _ flown _ set set k (sym (append-nil told))
        (λ side n. sym (no_more side n (handed side n))) (λ bits from. sym (append-nil (flown bits from))) refl h;
  }

  first_drained : (told : List Record) (handed : Sdus) (flown : Happened) (set : Bool) (done : ℕ)
      (first : List Record) (d : Drained) → TellAlone l first → LogAlone first
      → DrainLives (told ++ first) (λ side n. handed side n ++ looped_at side n first)
      (λ bits from. flown bits from ++ entries_in bits l from [] first) set d
      → DrainLives told handed flown set (behind first done d)
  first_drained told handed flown set done first d yet log q = record {
    nothing = q.nothing;
    alone = alone_both l first d.journal yet q.alone;
    log_alone = log_alone_both first d.journal log q.log_alone;
    lived = through.same _ (told ++ (first ++ d.journal)) _ _ _ _ set set d.link (append_assoc told first d.journal)
        (λ side n. both_looped side n (handed side n) first d.journal)
        (λ bits from. both_flown l (flown bits from) first d.journal q.alone bits from) refl q.lived;
  }

  -- where nothing was told before
  record First (told : List Record) (handed : Sdus) (flown : Happened) (set : Bool) (m : Link) : Type 0 where
    alone : TellAlone l m.out
    log_alone : LogAlone m.out
    lived : Live (told ++ m.out) (λ side n. handed side n ++ looped_at side n m.out)
        (λ bits from. flown bits from ++ entries_in bits l from [] m.out) set m

  at_first : (told : List Record) (handed : Sdus) (flown : Happened) (set : Bool) (k m : Link) → k.out ≡ []
      → GoesOn told handed flown set k m → First told handed flown set m
  at_first told handed flown set k m nothing g =
      let same : m.out ≡ g.more = g.out_is ∙ ap (λ (x : List Record). x ++ g.more) nothing in
      record {
        alone = subst (TellAlone l) (sym same) g.alone;
        log_alone = subst LogAlone (sym same) g.log_alone;
        lived = through.same _ _ _ _ _ _ set set m (ap (λ (x : List Record). told ++ x) (sym same))
            (λ side n. ap (λ (x : List Record). handed side n ++ looped_at side n x) (sym same))
            (λ bits from. ap (λ (x : List Record). flown bits from ++ entries_in bits l from [] x) (sym same)) refl
            g.lived;
      }

  ttis_go : (n grant : ℕ) (told : List Record) (handed : Sdus) (flown : Happened) (set : Bool) (k : Link)
      → grant ≤ 9422 → k.out ≡ [] → Live told handed flown set k → DrainLives told handed flown set (ttis n grant k)
  ttis_go zero grant told handed flown set k within nothing h = none_drained told handed flown set k nothing h
  ttis_go (suc n) grant told handed flown set k within nothing h =
      let m = drain_tti grant k in
      let x = at_first told handed flown set k m nothing (tti_goes told handed flown set grant k within h) in
      first_drained told handed flown set 0 m.out (ttis n grant (shown m)) x.alone x.log_alone
      (ttis_go n grant (told ++ m.out) _ _ set (shown m) within refl
      (through.unseen (told ++ m.out) _ _ set m [] x.lived))

  round_by : (n grant : ℕ) (told : List Record) (handed : Sdus) (flown : Happened) (set : Bool) (k : Link)
      → grant ≤ 9422 → k.out ≡ [] → Live told handed flown set k → (b : Bool)
      → ((said : List Record) (given : Sdus) (air : Happened) (m : Link) → m.out ≡ [] → Live said given air set m
      → DrainLives said given air set (rounds n grant m))
      → DrainLives told handed flown set
      (behind (round_told b grant k) (done_by b) (rounds n grant (left_by b grant k)))
  round_by n grant told handed flown set k within nothing h true rest = let q = rest told handed flown k nothing h in
      record { nothing = q.nothing; alone = q.alone; log_alone = q.log_alone; lived = q.lived }
  round_by n grant told handed flown set k within nothing h false rest =
      let m = round grant k in
      let x = at_first told handed flown set k m nothing (round_goes told handed flown set grant k within h) in
      first_drained told handed flown set 1 m.out (rounds n grant (shown m)) x.alone x.log_alone
      (rest (told ++ m.out) _ _ (shown m) refl (through.unseen (told ++ m.out) _ _ set m [] x.lived))

  rounds_go : (n grant : ℕ) (told : List Record) (handed : Sdus) (flown : Happened) (set : Bool) (k : Link)
      → grant ≤ 9422 → k.out ≡ [] → Live told handed flown set k → DrainLives told handed flown set (rounds n grant k)
  rounds_go zero grant told handed flown set k within nothing h = none_drained told handed flown set k nothing h
  rounds_go (suc n) grant told handed flown set k within nothing h =
      round_by n grant told handed flown set k within nothing h (is_drained k)
      (λ said given air m none q. rounds_go n grant said given air set m within none q)

  -- the records of a whole drain end with how it ends
  record WholeLives (told : List Record) (handed : Sdus) (flown : Happened) (set : Bool) (d : Drained) : Type 0 where
    said : List Record
    lived : Live (told ++ said) (λ side n. handed side n ++ looped_at side n said)
        (λ bits from. flown bits from ++ entries_in bits l from [] said) set d.link
    done : ℕ
    journal_is : d.journal ≡ said ++ records.Drained done ∷ []

  drained_lives : (told : List Record) (handed : Sdus) (flown : Happened) (set : Bool) (grant : ℕ) (k : Link)
      → grant ≤ 9422 → k.out ≡ [] → Live told handed flown set k → WholeLives told handed flown set (drained grant k)
  unfolding drained
  drained_lives told handed flown set grant k within nothing h =
      let d = ttis 8 grant k in
      let e = rounds (budget k) grant d.link in
      let p = ttis_go 8 grant told handed flown set k within nothing h in
      let whole = behind d.journal 0 e in
      record {
        said = whole.journal;
        lived =
            (first_drained told handed flown set 0 d.journal e p.alone p.log_alone
            (rounds_go (budget k) grant (told ++ d.journal) _ _ set d.link within p.nothing p.lived)).lived;
        done = whole.done;
        journal_is = refl;
      }

  -- ---- a line

  pub record PartLives (told : List Record) (handed : Sdus) (flown : Happened) (set : Bool) (ends : List AccountEntry)
      (p : Part) (m : Link) : Type 0 where
    pub more : List Record
    pub lived : Live (told ++ more) (λ side n. handed side n ++ (handed_in side n p m.out ++ looped_at side n m.out))
        (λ bits from. flown bits from ++ (ends ++ entries_in bits l from [] m.out)) set m
    pub told_are : (side : Side) → events_of side m.out ≡ events_of side more
    pub logged_are : logged no_flight m.out ≡ logged no_flight more
    pub haps_are : (d : Direction) (place : Cursor) → told_in d l place m.out ≡ told_in d l place more
    pub rest : List Record
    pub out_is : m.out ≡ more ++ rest
    pub rest_ends : EndsDrain rest

  pub step_plays : (told : List Record) (handed : Sdus) (flown : Happened) (set : Bool) (s : Step) (k : Link)
      (p : Part) → k.out ≡ [] → ((side : Side) (n : ℕ) → handed_by side n s k ≡ handed_in side n p (step s k).out)
      → StepLives l Live told handed flown set s k
      → PartLives told handed flown (set || sets l s) (renewals_in s) p (step s k)
  step_plays told handed flown set s k p nothing given x =
      let m = step s k in
      let same : m.out ≡ x.more = x.out_is ∙ ap (λ (y : List Record). y ++ x.more) nothing in
      record {
        more = m.out;
        lived = through.same _ _ _ _ _ _ (set || sets l s) (set || sets l s) m
            (ap (λ (y : List Record). told ++ y) (sym same))
            (λ side n.
            ap (λ (ys : List (List ℕ)). handed side n ++ (handed_by side n s k ++ ys))
            (ap (looped_at side n) (sym same))
            ∙ ap (λ (ys : List (List ℕ)). handed side n ++ (ys ++ looped_at side n m.out)) (given side n))
            (λ bits from. ap (λ (y : List Record). flown bits from ++ (renewals_in s ++ entries_in bits l from [] y))
            (sym same))
            refl x.lived;
        told_are = λ side. refl;
        logged_are = refl;
        haps_are = λ d place. refl;
        rest = [];
        out_is = sym (append-nil m.out);
        rest_ends = tt;
      }

  line_by : (told : List Record) (handed : Sdus) (flown : Happened) (set : Bool) (s : Step) (k : Link) (p : Part)
      → k.out ≡ [] → ((side : Side) (n : ℕ) → handed_by side n s k ≡ handed_in side n p (step s k).out)
      → IsStepSince l s → is_handover_step s ≡ false → Live told handed flown set k
      → PartLives told handed flown (set || sets l s) (renewals_in s) p (step s k)
  line_by told handed flown set s k p nothing given g own h =
      step_plays told handed flown set s k p nothing given (through.steps told handed flown set s k g own h)

  rests_by : (told : List Record) (handed : Sdus) (flown : Happened) (set : Bool) (c : calls.Call) (k : Link)
      → k.out ≡ [] → IsStepSince l (Calls c) → is_handover_step (Calls c) ≡ false → Live told handed flown set k
      → PartLives told handed flown (set || sets l (Calls c)) (renewals_in (Calls c)) Rests (calls.after c k)
  rests_by told handed flown set c k nothing g own h =
      line_by told handed flown set (Calls c) k Rests nothing (λ side n. refl) g own h

  none_lives : (told : List Record) (handed : Sdus) (flown : Happened) (set : Bool) (k : Link) → k.out ≡ []
      → Live told handed flown set k → PartLives told handed flown (set || false) [] Rests k
  none_lives told handed flown set k nothing h = record {
    more = [];
    lived = through.same told (told ++ []) handed _ flown _ set (set || false) k (sym (append-nil told))
        (λ side n. sym (no_more side n (handed side n))
        ∙ ap (λ (y : List Record). handed side n ++ looped_at side n y) (sym nothing))
        (λ bits from. sym (append-nil (flown bits from))
        ∙ ap (λ (y : List Record). flown bits from ++ entries_in bits l from [] y) (sym nothing))
        (sym (or_false set)) h;
    told_are = λ side. ap (events_of side) nothing;
    logged_are = ap (logged no_flight) nothing;
    haps_are = λ d place. ap (told_in d l place) nothing;
    rest = [];
    out_is = nothing;
    rest_ends = tt;
  }

  submit_lives : (told : List Record) (handed : Sdus) (flown : Happened) (set : Bool) (side : Side) (lcid : ℕ)
      (octets : List ℕ) (k : Link) → k.out ≡ [] → Live told handed flown set k
      → PartLives told handed flown (set || false) [] (Submits side lcid octets) (submitting side lcid octets k)
  submit_lives told handed flown set side lcid octets k nothing h =
      let why = option_map no_place (refusal lcid octets (end_of side k)) in
      let out : (submitting side lcid octets k).out ≡ refusals side lcid why =
      (submitting_adds side lcid octets k).out_is
      ∙ ap (λ (x : List Record). x ++ refusals side lcid why) nothing in
      line_by told handed flown set (Submit side lcid octets) k (Submits side lcid octets) nothing
      (λ s n. sym (ap (λ (x : List Record). handed_in s n (Submits side lcid octets) x) out
      ∙ submit_handed (refusal lcid octets (end_of side k)) s side n lcid octets))
      tt refl h

  drain_lives : (told : List Record) (handed : Sdus) (flown : Happened) (set : Bool) (grant : ℕ) (k : Link)
      → grant ≤ 9422 → k.out ≡ [] → Live told handed flown set k
      → PartLives told handed flown (set || false) [] (part_of_line (lines.Drain grant))
      (record (drained grant k).link { out = (drained grant k).journal })
  drain_lives told handed flown set grant k within nothing h =
      let w = drained_lives told handed flown set grant k within nothing h in
      let d = drained grant k in
      record {
        more = w.said;
        lived = through.same _ _ _ _ _ _ set (set || false) (record d.link { out = d.journal }) refl
            (λ side n. ap (λ (ys : List (List ℕ)). handed side n ++ ys)
            (sym (ap (looped_at side n) w.journal_is ∙ unlooped_end side n w.said w.done)))
            (λ bits from. ap (λ (hs : List AccountEntry). flown bits from ++ hs)
            (sym (ap (entries_in bits l from []) w.journal_is ∙ unflown_end bits l from w.said w.done)))
            (sym (or_false set)) (through.unseen _ _ _ set d.link d.journal w.lived);
        told_are = λ side. ap (events_of side) w.journal_is ∙ untold_end side w.said w.done;
        logged_are = ap (logged no_flight) w.journal_is ∙ unlogged_end w.said w.done;
        haps_are = λ d place. ap (told_in d l place) w.journal_is ∙ unsaid_end d l place w.said w.done;
        rest = records.Drained w.done ∷ [];
        out_is = w.journal_is;
        rest_ends = tt;
      }

  -- any line but a handover
  pub line_stays : (told : List Record) (handed : Sdus) (flown : Happened) (set : Bool) (line : Line)
      (keys : Option Keys) (k : Link) → k.out ≡ [] → IsInRange line → adds_one l line ≡ false → forges line ≡ false
      → is_handover line ≡ false → Live told handed flown set k
      → PartLives told handed flown (set || sets_timer l line) (entries_ended line) (part_of_line line)
      (played line keys k)
  unfolding acted
  line_stays told handed flown set (lines.Harq maximum) keys k nothing fits other own here h =
      rests_by told handed flown set (calls.Visits maximum) k nothing (fits.some, fits.few) refl h
  line_stays told handed flown set lines.Bsr keys k nothing fits other own here h =
      rests_by told handed flown set calls.Reports k nothing tt refl h
  line_stays told handed flown set (lines.Keys ks) keys k nothing fits other own here h =
      none_lives told handed flown set k nothing h
  line_stays told handed flown set (lines.Bearer config options) keys k nothing fits other own here h =
      rests_by told handed flown set (calls.Bears config (keys_or_none keys)) k nothing (fits, other) refl h
  line_stays told handed flown set (lines.Submit side lcid octets) keys k nothing fits other own here h =
      submit_lives told handed flown set side lcid octets k nothing h
  line_stays told handed flown set (lines.Tti up_grant up down_grant down) keys k nothing fits other own here h =
      line_by told handed flown set (Tti up_grant up down_grant down) k _ nothing (λ side n. refl) (
        fits.up,
        fits.down,
      ) refl h
  line_stays told handed flown set (lines.Expire side lcid clock) keys k nothing fits other own here h =
      rests_by told handed flown set (calls.Expires side lcid clock) k nothing tt refl h
  line_stays told handed flown set (lines.Handover user rrc integrity) keys k nothing fits other own here h = absurd cc
  line_stays told handed flown set lines.LoopOff keys k nothing fits other own here h =
      rests_by told handed flown set (calls.Loops Off) k nothing tt refl h
  line_stays told handed flown set (lines.LoopA size) keys k nothing fits other own here h =
      rests_by told handed flown set (calls.Loops (A size)) k nothing tt refl h
  line_stays told handed flown set (lines.LoopB delay) keys k nothing fits other own here h =
      rests_by told handed flown set (calls.Loops (B delay)) k nothing tt refl h
  line_stays told handed flown set (lines.Drain grant) keys k nothing fits other own here h =
      drain_lives told handed flown set grant k fits nothing h
  line_stays told handed flown set (lines.Forge side octets) keys k nothing fits other own here h = absurd cc
  line_stays told handed flown set (lines.Discard lcid count) keys k nothing fits other own here h =
      rests_by told handed flown set (calls.Discards lcid count) k nothing tt refl h
  line_stays told handed flown set (lines.Drx config) keys k nothing fits other own here h =
      rests_by told handed flown set (calls.Listens config) k nothing tt refl h
  line_stays told handed flown set lines.End keys k nothing fits other own here h =
      none_lives told handed flown set k nothing h
