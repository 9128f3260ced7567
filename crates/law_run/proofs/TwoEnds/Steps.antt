-- One step of two ends that tells what records tell: a call, a block that comes or is let go, a TTI that ends.
use Rattle.std.proofs.Common.{◌≡◌, ◌≤◌, ℕ, Bool, false, Option, Some, None, List, [], ◌∷◌, ◌++◌}
use Rattle.std.proofs.Common.{append-nil, refl, ap, sym, subst, arith, ◌∙◌}
use Rattle.std.specs.Prelude.{slice_get}
use Rattle.std.specs.List.{AllByRecursion, filter}
use Rattle.bearer_types.specs.Sides.{other}
use Rattle.air_record.specs.declared.record.Record.{Record}
use Rattle.eps_sec.specs.declared.Keys.{Keys}
use Rattle.harq.specs.Sending.{Sending}
use Rattle.l2_node.specs.End.{End}
use Rattle.l2_node.specs.Moving.{leaving}
use Rattle.l2_types.specs.declared.side.Side.{Side}
use Rattle.l2_types.specs.declared.side.Side.TheVariants.{Nb, Ue}
use Rattle.law_node.specs.Bearers.{adds, keys_in}
use Rattle.law_node.specs.Calls.{Call as EndCall}
use Rattle.law_node.specs.Calls.{Receive, Move, IsGiven as IsGivenTo}
use Rattle.law_node.specs.Calls.{after as after_call}
use Rattle.law_node.specs.Telling.{told_of, told_over}
use Rattle.promises.specs.Records.{events_of}
use Rattle.law_deliver.specs.AmFlow.Air.{Block, Air, Calls, Comes, Goes as LetsGo, AtNb, AtUe, Passes}
use Rattle.law_deliver.specs.AmFlow.Air.{calls, comes, passed, outset, IsCalling, IsYoung}
use Rattle.law_deliver.specs.AmFlow.Channels.{GoesOnInLife}
use Rattle.law_words.specs.Arrivals.{AccountEntry, Renews}
use Rattle.law_deliver.specs.AmChannel.Arrival.{said_in, heard_in, said_over, heard_over, happened}
use Rattle.promises.specs.Arrival.{entries_in}
use Rattle.promises.specs.Flows.{loops_in}
use Rattle.law_deliver.specs.AmChannel.Delivery.{submitted_in, was_submitted, sets_discard, SetNone}
use Rattle.law_deliver.specs.AmChannel.Lives.{AirStep, InLife, Moves, brought}
use Rattle.law_rlc.specs.AmPair.Flow.{except}
use Rattle.um_losses.specs.declared.flow.Happening.TheVariants.{LifeRestarted}
use Rattle.law_deliver.specs.UmGaps.Whats.{sent_in, expiries, brought as what_came, whats}
use Rattle.law_run.specs.TwoEnds.Along.{at_side}
use Rattle.law_run.specs.TwoEnds.Logs.{all_tell, log_in, log_come, Flight, logged}
use Rattle.law_run.specs.TwoEnds.On.{IsHeld, IsStation}
use Rattle.law_run.proofs.TwoEnds.Along.{nothing_looped, LoopsIn, along_one}
use Rattle.law_run.proofs.TwoEnds.Together.{CallTogether, nb_together, ue_together}
use Rattle.law_run.proofs.TwoEnds.Flying.{gone, without, without_gone}
use Rattle.law_run.proofs.TwoEnds.Stations.{Done, wait}
use Rattle.law_run.proofs.TwoEnds.Going.{station, with_station, Tells, Submits, Unset, Marks, moving, IsLooped}
use Rattle.law_run.proofs.TwoEnds.Going.{Behind, Fits, ended, Whats, no_whats, GoesBehind, Goes, goes_then}
use Rattle.law_run.proofs.TwoEnds.Going.{none, TellNoAir, goes_none, Any, Renewed}

-- ---- one step

pub by_sides : (P : Side → Type 0) → P Nb → P Ue → (side : Side) → P side
by_sides P nb ue Nb = nb
by_sides P nb ue Ue = ue

-- what an end tells in a call, and what it is submitted, as records and SDUs have it; the other end tells nothing, and
-- is submitted none
pub record Says (side : Side) (told : List Record) (given : Side → ℕ
    → List (List ℕ)) (e : End) (c : EndCall) : Type 0 where
  pub told_is : events_of side told ≡ told_of e c
  pub other_told : events_of (other side) told ≡ []
  pub submitted_is : (n : ℕ) → submitted_in n e c ≡ given side n
  pub other_submitted : (n : ℕ) → [] ≡ given (other side) n
  pub says : (bits l : ℕ) (sent : List ℕ) → said_in bits l e c ≡ entries_in bits l side sent told
  pub hears : (bits l : ℕ) (sent : List ℕ) → heard_in l e c ≡ entries_in bits l (other side) sent told
  pub logs : (sent : Flight) → log_in side 0 e c ≡ logged sent told
  pub together : CallTogether side e c told

-- an end's one call, by what it sends and by what it hears
said_one : (bits l : ℕ) (e : End) (c : EndCall) → ((said_in bits l e c ++ []) ++ []) ++ [] ≡ said_in bits l e c
said_one bits l e c =
    let hs = said_in bits l e c in
    append-nil ((hs ++ []) ++ []) ∙ (append-nil (hs ++ []) ∙ append-nil hs)

heard_one : (l : ℕ) (e : End) (c : EndCall) → ([] ++ (heard_in l e c ++ [])) ++ [] ≡ heard_in l e c
heard_one l e c = let hs = heard_in l e c in append-nil (hs ++ []) ∙ append-nil hs

-- a call in a life, in which it sets no discard timer on the channel where `set` is false
pub record IsPlayed (l : ℕ) (set : Marks) (c : EndCall) : Type 0 where
  pub adds_none : adds l c ≡ false
  pub moves_none : keys_in c ≡ []
  pub unset : set.sets ≡ false → sets_discard l c ≡ false

in_life : (l : ℕ) (set : Marks) (c : EndCall) → IsPlayed l set c → GoesOnInLife l c
in_life l set c x = record { adds_none = x.adds_none; moves_none = x.moves_none }

-- what a call of an end is to the flow that it sends, and to the one that it hears
abbrev pub call_whats : Side → ℕ → End → EndCall → Whats
call_whats Nb l e c bits Nb = sent_in Nb l bits e c
call_whats Nb l e c bits Ue = expiries l (told_of e c)
call_whats Ue l e c bits Nb = expiries l (told_of e c)
call_whats Ue l e c bits Ue = sent_in Ue l bits e c

-- and what a block that comes is
abbrev pub come_whats : Side → ℕ → End → Block → Whats
come_whats Nb l e b bits Nb = []
come_whats Nb l e b bits Ue = what_came l e (Some b)
come_whats Ue l e b bits Nb = what_came l e (Some b)
come_whats Ue l e b bits Ue = []

abbrev pub move_whats : ℕ → Air → Keys → Whats
move_whats l a keys bits Nb = LifeRestarted ∷ expiries l (leaving a.ue.end)
move_whats l a keys bits Ue = LifeRestarted ∷ expiries l (leaving a.nb.end)

whats_by : (l : ℕ) (xs : List AirStep) (a : Air) (ws : Whats) → ((bits : ℕ) → whats Nb l bits xs a ≡ ws bits Nb)
    → ((bits : ℕ) → whats Ue l bits xs a ≡ ws bits Ue) → (bits : ℕ) (from : Side)
    → whats from l bits xs a ≡ ws bits from
whats_by l xs a ws nb ue bits Nb = nb bits
whats_by l xs a ws nb ue bits Ue = ue bits

pub goes_call : (l : ℕ) (set : Marks) (side : Side) (told : List Record) (given : Side → ℕ
    → List (List ℕ)) (c : EndCall) (a : Air) → IsGivenTo c → IsPlayed l set c → IsCalling (station side a) c
    → Says side told given (station side a).end c → IsLooped set told given
    → Goes l set told given (call_whats side l (station side a).end c) a
    (with_station side (calls (station side a) c) a)
goes_call l set Nb told given c a g life calling x looped =
    let xs : List AirStep = InLife (AtNb (Calls c)) ∷ [] in
    record {
      steps = xs;
      living = ((g, in_life l set c life, calling), tt);
      told_is = by_sides (Tells told xs a) (x.told_is ∙ sym (append-nil (told_of a.nb.end c))) x.other_told;
      submitted_is =
          by_sides (Submits given xs a) (λ n. append-nil (submitted_in n a.nb.end c) ∙ x.submitted_is n)
          x.other_submitted;
      sets_none = λ off. by_sides (Unset l xs a) (life.unset off, tt) tt;
      stays = λ off. tt;
      reads =
          λ bits from sent fits. by_sides (λ (side : Side). happened bits l side xs a
          ≡ entries_in bits l side sent.octets told) (said_one bits l a.nb.end c ∙ x.says bits l sent.octets)
          (heard_one l a.nb.end c ∙ x.hears bits l sent.octets) from;
      logs = λ sent fits. append-nil (log_in Nb 0 a.nb.end c) ∙ x.logs sent;
      along = λ off sent fits.
          along_one sent (InLife (AtNb (Calls c))) a told (sym (x.logs sent))
          (by_sides (LoopsIn told (InLife (AtNb (Calls c))) a)
          (λ n. sym (append-nil (submitted_in n a.nb.end c) ∙ (x.submitted_is n ∙ looped off Nb n)))
          (λ n. sym (x.other_submitted n ∙ looped off Ue n))) (nb_together c a told x.together);
      whats_are = whats_by l xs a (call_whats Nb l a.nb.end c) (λ bits. append-nil (sent_in Nb l bits a.nb.end c))
          (λ bits. append-nil (expiries l (told_of a.nb.end c)));
      air_is = refl;
    }
goes_call l set Ue told given c a g life calling x looped =
    let xs : List AirStep = InLife (AtUe (Calls c)) ∷ [] in
    record {
      steps = xs;
      living = ((g, in_life l set c life, calling), tt);
      told_is = by_sides (Tells told xs a) x.other_told (x.told_is ∙ sym (append-nil (told_of a.ue.end c)));
      submitted_is =
          by_sides (Submits given xs a) x.other_submitted (λ n. append-nil (submitted_in n a.ue.end c)
          ∙ x.submitted_is n);
      sets_none = λ off. by_sides (Unset l xs a) tt (life.unset off, tt);
      stays = λ off. tt;
      reads =
          λ bits from sent fits. by_sides (λ (side : Side). happened bits l side xs a
          ≡ entries_in bits l side sent.octets told) (heard_one l a.ue.end c ∙ x.hears bits l sent.octets)
          (said_one bits l a.ue.end c ∙ x.says bits l sent.octets) from;
      logs = λ sent fits. append-nil (log_in Ue 0 a.ue.end c) ∙ x.logs sent;
      along = λ off sent fits.
          along_one sent (InLife (AtUe (Calls c))) a told (sym (x.logs sent))
          (by_sides (LoopsIn told (InLife (AtUe (Calls c))) a) (λ n. sym (x.other_submitted n ∙ looped off Nb n))
          (λ n. sym (append-nil (submitted_in n a.ue.end c) ∙ (x.submitted_is n ∙ looped off Ue n))))
          (ue_together c a told x.together);
      whats_are = whats_by l xs a (call_whats Ue l a.ue.end c) (λ bits. append-nil (expiries l (told_of a.ue.end c)))
          (λ bits. append-nil (sent_in Ue l bits a.ue.end c));
      air_is = refl;
    }

pub call_steps : (l : ℕ) (set : Marks) (side : Side) (told : List Record) (given : Side → ℕ
    → List (List ℕ)) (c : EndCall) (a : Air) (g : IsGivenTo c) (life : IsPlayed l set c)
    (calling : IsCalling (station side a) c) (x : Says side told given (station side a).end c)
    (looped : IsLooped set told given)
    → (goes_call l set side told given c a g life calling x looped).steps ≡ InLife (at_side side (Calls c)) ∷ []
unfolding goes_call
call_steps l set Nb told given c a g life calling x looped = refl
call_steps l set Ue told given c a g life calling x looped = refl

-- a block of the other end comes

-- the records tell that it comes, of what the other end sends
pub record Brings (l : ℕ) (c : Behind) (side : Side) (told : List Record) (b : Block) (e : End) : Type 0 where
  pub own : (bits : ℕ) (sent : Flight) → Fits c sent → entries_in bits l side sent.octets told ≡ []
  pub far : (bits : ℕ) (sent : Flight) → Fits c sent
      → entries_in bits l (other side) sent.octets told ≡ heard_in l e (Receive b.octets)
  pub log : (sent : Flight) → Fits c sent → logged sent told ≡ log_come side e (Some b)

none_said : (bits l : ℕ) (o : Option Block) (e : End) → (said_over bits l (brought o) e ++ []) ++ [] ≡ []
none_said bits l None e = refl
none_said bits l (Some b) e = refl

come_unset : (l : ℕ) (o : Option Block) → SetNone l (brought o ++ [])
come_unset l None = tt
come_unset l (Some b) = (refl, tt)

pub goes_come : (l : ℕ) (set : Marks) (c : Behind) (side : Side) (told : List Record) (k : ℕ) (b : Block) (a : Air)
    → ended c ≡ [] → Brings l c side told b (station side a).end
    → slice_get (station (other side) a).blocks k ≡ Some b
    → events_of side told ≡ told_of (station side a).end (Receive b.octets) → events_of (other side) told ≡ []
    → ((n : ℕ) → loops_in n told ≡ [])
    → GoesBehind l set c told none (come_whats side l (station side a).end b) a
    (with_station side (record (station side a) { end = after_call (station side a).end (Receive b.octets) }) a)
goes_come l set c Nb told k b a open' brings there is untold unlooped =
    let xs : List AirStep = InLife (AtNb (Comes k)) ∷ [] in
    let e = a.nb.end in
    record {
      steps = xs;
      living = (tt, tt);
      told_is =
          by_sides (Tells told xs a) (is ∙ sym (append-nil (told_of e (Receive b.octets)))
          ∙ ap (λ (o : Option Block). told_over (brought o ++ []) e) (sym there)) untold;
      submitted_is =
          by_sides (Submits none xs a) (λ n. ap (λ (o : Option Block). was_submitted n (brought o ++ []) e) there)
          (λ n. refl);
      sets_none = λ off. by_sides (Unset l xs a) (come_unset l (slice_get a.ue.blocks k)) tt;
      stays = λ off. tt;
      reads =
          λ bits from sent fits. by_sides (λ (s : Side). happened bits l s xs a
          ≡ ended c ++ entries_in bits l s sent.octets told)
          (none_said bits l (slice_get a.ue.blocks k) e
          ∙ sym (ap (λ (hs : List AccountEntry). hs ++ entries_in bits l Nb sent.octets told) open'
          ∙ brings.own bits sent fits))
          (ap (λ (o : Option Block). ([] ++ heard_over l (brought o) e) ++ []) there
          ∙ (heard_one l e (Receive b.octets)
          ∙ sym (ap (λ (hs : List AccountEntry). hs ++ entries_in bits l Ue sent.octets told) open'
          ∙ brings.far bits sent fits))) from;
      logs = λ sent fits. ap (λ (o : Option Block). log_come Nb e o ++ []) there
          ∙ (append-nil (log_come Nb e (Some b)) ∙ sym (brings.log sent fits));
      along = λ off sent fits.
          along_one sent (InLife (AtNb (Comes k))) a told (brings.log sent fits ∙ ap (log_come Nb e) (sym there))
          (by_sides (LoopsIn told (InLife (AtNb (Comes k))) a)
          (λ n. ap (λ (o : Option Block). was_submitted n (brought o) e) (sym there)) unlooped) tt;
      whats_are = whats_by l xs a (come_whats Nb l e b) (λ bits. refl)
          (λ bits. append-nil (what_came l e (slice_get a.ue.blocks k)) ∙ ap (what_came l e) there);
      air_is = ap (λ (o : Option Block). record a { nb = comes a.nb o }) there;
    }
goes_come l set c Ue told k b a open' brings there is untold unlooped =
    let xs : List AirStep = InLife (AtUe (Comes k)) ∷ [] in
    let e = a.ue.end in
    record {
      steps = xs;
      living = (tt, tt);
      told_is =
          by_sides (Tells told xs a) untold (is ∙ sym (append-nil (told_of e (Receive b.octets)))
          ∙ ap (λ (o : Option Block). told_over (brought o ++ []) e) (sym there));
      submitted_is =
          by_sides (Submits none xs a) (λ n. refl)
          (λ n. ap (λ (o : Option Block). was_submitted n (brought o ++ []) e) there);
      sets_none = λ off. by_sides (Unset l xs a) tt (come_unset l (slice_get a.nb.blocks k));
      stays = λ off. tt;
      reads =
          λ bits from sent fits. by_sides (λ (s : Side). happened bits l s xs a
          ≡ ended c ++ entries_in bits l s sent.octets told)
          (ap (λ (o : Option Block). ([] ++ heard_over l (brought o) e) ++ []) there
          ∙ (heard_one l e (Receive b.octets)
          ∙ sym (ap (λ (hs : List AccountEntry). hs ++ entries_in bits l Nb sent.octets told) open'
          ∙ brings.far bits sent fits)))
          (none_said bits l (slice_get a.nb.blocks k) e
          ∙ sym (ap (λ (hs : List AccountEntry). hs ++ entries_in bits l Ue sent.octets told) open'
          ∙ brings.own bits sent fits)) from;
      logs = λ sent fits. ap (λ (o : Option Block). log_come Ue e o ++ []) there
          ∙ (append-nil (log_come Ue e (Some b)) ∙ sym (brings.log sent fits));
      along = λ off sent fits.
          along_one sent (InLife (AtUe (Comes k))) a told (brings.log sent fits ∙ ap (log_come Ue e) (sym there))
          (by_sides (LoopsIn told (InLife (AtUe (Comes k))) a) (λ n. refl)
          (λ n. unlooped n ∙ ap (λ (o : Option Block). was_submitted n (brought o) e) (sym there))) tt;
      whats_are =
          whats_by l xs a (come_whats Ue l e b) (λ bits. append-nil (what_came l e (slice_get a.nb.blocks k))
          ∙ ap (what_came l e) there) (λ bits. refl);
      air_is = ap (λ (o : Option Block). record a { ue = comes a.ue o }) there;
    }

-- both ends move

pub goes_move : (l : ℕ) (set : Bool) (told : List Record) (keys : Keys) (a : Air) → TellNoAir told
    → events_of Nb told ≡ leaving a.nb.end → events_of Ue told ≡ leaving a.ue.end
    → ((sent : Flight) → logged sent told ≡ all_tell Nb (leaving a.nb.end) ++ all_tell Ue (leaving a.ue.end))
    → ((n : ℕ) → loops_in n told ≡ [])
    → GoesBehind l (moving set) Renewed told none (move_whats l a keys) a
    (outset (after_call a.nb.end (Move keys)) (after_call a.ue.end (Move keys)))
goes_move l set told keys a unflown nb ue log unlooped =
    let xs : List AirStep = Moves keys ∷ [] in
    record {
      steps = xs;
      living = (tt, tt);
      told_is = by_sides (Tells told xs a) (nb ∙ sym (append-nil (leaving a.nb.end)))
          (ue ∙ sym (append-nil (leaving a.ue.end)));
      submitted_is = by_sides (Submits none xs a) (λ n. refl) (λ n. refl);
      sets_none = λ off. by_sides (Unset l xs a) (refl, tt) (refl, tt);
      stays = λ off. absurd cc;
      reads =
          λ bits from sent fits. by_sides (λ (s : Side). happened bits l s xs a
          ≡ Renews ∷ entries_in bits l s sent.octets told)
          (ap (λ (hs : List AccountEntry). Renews ∷ hs) (sym (unflown bits l Nb sent.octets)))
          (ap (λ (hs : List AccountEntry). Renews ∷ hs) (sym (unflown bits l Ue sent.octets))) from;
      logs = λ sent fits.
          append-nil (all_tell Nb (leaving a.nb.end) ++ all_tell Ue (leaving a.ue.end)) ∙ sym (log sent);
      along = λ off sent fits. along_one sent (Moves keys) a told (log sent)
          (by_sides (LoopsIn told (Moves keys) a) (λ n. refl) unlooped) tt;
      whats_are = whats_by l xs a (move_whats l a keys) (λ bits. append-nil (move_whats l a keys bits Nb))
          (λ bits. append-nil (move_whats l a keys bits Ue));
      air_is = refl;
    }

-- blocks are let go

goes_one : (l : ℕ) (set : Marks) (side : Side) (k : ℕ) (a : Air)
    → Goes l set [] none no_whats a
    (with_station side (record (station side a) { blocks = except k (station side a).blocks }) a)
goes_one l set Nb k a =
    let xs : List AirStep = InLife (AtNb (LetsGo k)) ∷ [] in
    record {
      steps = xs;
      living = (tt, tt);
      told_is = by_sides (Tells [] xs a) refl refl;
      submitted_is = by_sides (Submits none xs a) (λ n. refl) (λ n. refl);
      sets_none = λ off. by_sides (Unset l xs a) tt tt;
      stays = λ off. tt;
      reads = λ bits from sent fits. by_sides (λ (s : Side). happened bits l s xs a ≡ []) refl refl from;
      logs = λ sent fits. refl;
      along = λ off sent fits.
          along_one sent (InLife (AtNb (LetsGo k))) a [] refl
          (by_sides (LoopsIn [] (InLife (AtNb (LetsGo k))) a) (λ n. refl) (λ n. refl)) tt;
      whats_are = whats_by l xs a no_whats (λ bits. refl) (λ bits. refl);
      air_is = refl;
    }
goes_one l set Ue k a =
    let xs : List AirStep = InLife (AtUe (LetsGo k)) ∷ [] in
    record {
      steps = xs;
      living = (tt, tt);
      told_is = by_sides (Tells [] xs a) refl refl;
      submitted_is = by_sides (Submits none xs a) (λ n. refl) (λ n. refl);
      sets_none = λ off. by_sides (Unset l xs a) tt tt;
      stays = λ off. tt;
      reads = λ bits from sent fits. by_sides (λ (s : Side). happened bits l s xs a ≡ []) refl refl from;
      logs = λ sent fits. refl;
      along = λ off sent fits.
          along_one sent (InLife (AtUe (LetsGo k))) a [] refl
          (by_sides (LoopsIn [] (InLife (AtUe (LetsGo k))) a) (λ n. refl) (λ n. refl)) tt;
      whats_are = whats_by l xs a no_whats (λ bits. refl) (λ bits. refl);
      air_is = refl;
    }

goes_all : (l : ℕ) (set : Marks) (side : Side) (ks : List ℕ) (a : Air)
    → Goes l set [] none no_whats a
    (with_station side (record (station side a) { blocks = without ks (station side a).blocks }) a)
goes_all l set Nb [] a =
    goes_none l set Any [] a refl (λ side. refl) (λ bits l from sent. refl) (λ sent. refl) nothing_looped
goes_all l set Ue [] a =
    goes_none l set Any [] a refl (λ side. refl) (λ bits l from sent. refl) (λ sent. refl) nothing_looped
goes_all l set Nb (k ∷ ks) a =
    let b : Air = record a { nb = record a.nb { blocks = except k a.nb.blocks } } in
    goes_then l set [] [] none none a b (record a { nb = record a.nb { blocks = without (k ∷ ks) a.nb.blocks } })
    (goes_one l set Nb k a) (goes_all l set Nb ks b)
goes_all l set Ue (k ∷ ks) a =
    let b : Air = record a { ue = record a.ue { blocks = except k a.ue.blocks } } in
    goes_then l set [] [] none none a b (record a { ue = record a.ue { blocks = without (k ∷ ks) a.ue.blocks } })
    (goes_one l set Ue k a) (goes_all l set Ue ks b)

pub goes_off : (l : ℕ) (set : Marks) (side : Side) (stays : Block → Bool) (a : Air)
    → Goes l set [] none no_whats a
    (with_station side (record (station side a) { blocks = filter stays (station side a).blocks }) a)
goes_off l set side stays a =
    subst (λ (bs : List Block). Goes l set [] none no_whats a
    (with_station side (record (station side a) { blocks = bs }) a)) (without_gone stays (station side a).blocks)
    (goes_all l set side (gone stays (station side a).blocks) a)

-- a TTI ends

young : (t : ℕ) (s : Sending) (b : Block) → s.maximum ≤ 28 → IsHeld (wait (Done t)) s b → IsYoung b
young t s b few h =
    let age = h.age_is in
    let some = h.some in
    omega (arith, age, some, few)

all_young : (t : ℕ) (s : Sending) → s.maximum ≤ 28 → (bs : List Block) → AllByRecursion (IsHeld (wait (Done t)) s) bs
    → AllByRecursion IsYoung bs
all_young t s few [] h = tt
all_young t s few (b ∷ bs) h = (young t s b few h.0, all_young t s few bs h.1)

pub goes_pass : (l : ℕ) (set : Marks) (t : ℕ) (a : Air) → IsStation Nb (wait (Done t)) a.nb
    → IsStation Ue (wait (Done t)) a.ue
    → Goes l set [] none no_whats a (record { nb = passed a.nb; ue = passed a.ue })
goes_pass l set t a nb ue =
    let xs : List AirStep = InLife Passes ∷ [] in
    record {
      steps = xs;
      living = (
        (
          all_young t a.nb.end.sender nb.few a.nb.blocks nb.held,
          all_young t a.ue.end.sender ue.few a.ue.blocks ue.held,
        ),
        tt,
      );
      told_is = by_sides (Tells [] xs a) refl refl;
      submitted_is = by_sides (Submits none xs a) (λ n. refl) (λ n. refl);
      sets_none = λ off. by_sides (Unset l xs a) tt tt;
      stays = λ off. tt;
      reads = λ bits from sent fits. by_sides (λ (s : Side). happened bits l s xs a ≡ []) refl refl from;
      logs = λ sent fits. refl;
      along = λ off sent fits.
          along_one sent (InLife Passes) a [] refl (by_sides (LoopsIn [] (InLife Passes) a) (λ n. refl) (λ n. refl))
          tt;
      whats_are = whats_by l xs a no_whats (λ bits. refl) (λ bits. refl);
      air_is = refl;
    }
