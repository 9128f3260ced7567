-- What an acknowledged bearer may still send, over its calls.
use Rattle.std.proofs.Common.{◌≡◌, ◌≤◌, ℕ, Bool}
use Rattle.std.proofs.Common.{List}
use Rattle.std.proofs.Common.{[], ◌∷◌, ◌++◌, map, Option, refl, ap}
use Rattle.std.proofs.Common.{sym}
use Rattle.std.proofs.Common.{subst, ◌∙◌, arith}
use Rattle.std.specs.List.{AllByRecursion}
use Rattle.pdcp_tx.specs.Pdus.{pdu}
use Rattle.rlc_am_tx.specs.declared.turn.Turn.{Turn}
use Rattle.rlc_am_tx.specs.declared.turn.Turn.TheVariants as turns
use Rattle.rlc_am_tx.specs.Machine.{State as Sender, start, turn, answer_of}
use Rattle.law_rlc.specs.AmSender.Run.{Call as SenderCall, Offer, Take as Taking}
use Rattle.law_rlc.specs.AmSender.Run.{World}
use Rattle.law_rlc.specs.AmSender.Run.{run_am_sender}
use Rattle.law_rlc.specs.AmSender.Namings.{Marks, unmarked, marks_after}
use Rattle.law_rlc.specs.AmSender.Octets.{HasOctets}
use Rattle.law_rlc.specs.AmReceiver.Run.{Write}
use Rattle.bearer.specs.Acknowledged.State.{State}
use Rattle.bearer.specs.Acknowledged.Taking.{writes_status, data_size}
use Rattle.law_bearer.specs.AnyBearer.Acknowledged.{data_given, offered_to, offers_in, has_more_behind}
use Rattle.law_bearer.specs.AnyBearer.Calls.{Call, Submit, Take, Arrive, Expire, Tick, SetDiscard}
use Rattle.law_bearer.specs.AnyBearer.Sending.{sends_on}
use Rattle.law_bearer.specs.AmBearer.Calls.{only_if, deeds_of}
use Rattle.law_bearer.specs.AmBearer.Deeds.{Deed, Feeds, Sends, Receives, does, does_all}
use Rattle.law_bearer.specs.AmBearer.Sending.{sends_in}
use Rattle.law_bearer.proofs.AmBearer.Sending.{deeds_are_its_calls, in_then, takes_are_its_calls}
use Rattle.law_drain.specs.Bearer.{marks_behind, data_in, BearerDuesFall}
use Rattle.law_drain.specs.Dues.{sent_in}
use Rattle.law_drain.specs.Queues.{pieces_in}
use Rattle.law_drain.proofs.Come.{HasCome, first-all, last-all, come-then}
use Rattle.law_drain.proofs.BearerDues.{Falls, sent_at, sent_along, brought_along, marks_along, deeds-fall, marks-then}
use Rattle.law_drain.proofs.Calm.{brought-in}

-- ---- the data PDU of a call

abbrev without_last : List SenderCall → List SenderCall
without_last [] = []
without_last (c ∷ []) = []
without_last (c ∷ d ∷ ds) = c ∷ without_last (d ∷ ds)

last-off : (cs : List SenderCall) (c : SenderCall) → without_last (cs ++ c ∷ []) ≡ cs
last-off [] c = refl
last-off (d ∷ []) c = refl
last-off (d ∷ e ∷ es) c = ap (λ (cs : List SenderCall). d ∷ cs) (last-off (e ∷ es) c)

same-front : (cs ds : List SenderCall) (c : SenderCall) → cs ++ c ∷ [] ≡ ds ++ c ∷ [] → cs ≡ ds
same-front cs ds c e = sym (last-off cs c) ∙ ap without_last e ∙ last-off ds c

last-sent : (deeds : List Deed) (deed : Deed) (b : State)
    → sent_at (does_all deeds b) deed ≤ sent_along (deeds ++ deed ∷ []) b
last-sent [] deed b = omega arith
last-sent (d ∷ ds) deed b = omega (arith, last-sent ds deed (does b d))

pieces-sent : (t : Turn) (s : Sender) (share : ℕ) (more : Bool) → pieces_in (answer_of t s share more) ≡ sent_in t
unfolding answer_of
pieces-sent turns.Whole s share more = refl
pieces-sent turns.Part s share more = refl
pieces-sent turns.New s share more = refl
pieces-sent turns.Idle s share more = refl
pieces-sent turns.Stopped s share more = refl
pieces-sent turns.Small s share more = refl
pieces-sent turns.Shut s share more = refl
pieces-sent turns.Held s share more = refl

take-sent : (b : State) (share : ℕ) (held : Option ℕ)
    → pieces_in (data_given b share held) ≤ sent_along (deeds_of b (Take share held)) b
take-sent b share held =
    let sent = last-sent front (Sends call) b in
    let at : sent_in (turn (does_all front b).tx (data_size b share) held more)
    ≡ sent_in (turn (offered_to b share held) (data_size b share) held more) =
    ap (λ (s : Sender). sent_in (turn s (data_size b share) held more)) fed in
    let pieces = pieces-sent (turn (offered_to b share held) (data_size b share) held more) (offered_to b share held)
    (data_size b share) more in
    omega (arith, sent, at, pieces)
  where
    front : List Deed
    front = only_if (writes_status b.rx share) (Receives Write) ++ map (λ pdu. Feeds) (offers_in b share held)

    more : Bool
    more = has_more_behind b share held

    call : SenderCall
    call = Taking (data_size b share) held more

    fed : (does_all front b).tx ≡ offered_to b share held
    fed = deeds_are_its_calls b front
        ∙ ap (λ (cs : List SenderCall). sends_on cs b.tx)
        (same-front (sends_in front b) (map (λ sdu. Offer sdu) (offers_in b share held)) call
        (sym (in_then front (Sends call ∷ []) b) ∙ takes_are_its_calls b share held))

pub sent-in : (b : State) (c : Call) → data_in b c ≤ sent_along (deeds_of b c) b
sent-in b (Submit sdu) = omega arith
sent-in b (Take share held) = take-sent b share held
sent-in b (Arrive pdu) = omega arith
sent-in b (Expire clock) = omega arith
sent-in b Tick = omega arith
sent-in b (SetDiscard ttis) = omega arith

-- ---- any call

pub behind-along : (b : State) (deeds : List Deed) → b.tx ≡ start b.tx_config
    → AllByRecursion HasOctets (sends_in deeds b) → HasCome b.tx unmarked
    → marks_behind b deeds ≡ marks_along deeds b unmarked
behind-along b deeds e some h =
    ap (λ (s : Sender). (run_am_sender marks_after (sends_in deeds b) (record { state = s; past = unmarked })).past)
    (sym e)
    ∙ ap (λ (w : World Marks). w.past) (deeds-fall deeds b unmarked h some).run

pub bearer_dues_fall : BearerDuesFall
bearer_dues_fall b deeds c e some = record {
  dues =
      rw (before, behind)
      (omega (arith, falls.falls, sent-in now c, brought-in now c));
}
  where
    now : State
    now = does_all deeds b

    begins : HasCome b.tx unmarked
    begins = record {
      config = b.tx_config;
      calls = [];
      some = tt;
      is = ap (λ (s : Sender). record { state = s; past = unmarked }) (sym e);
    }

    parts : AllByRecursion HasOctets (sends_in deeds b ++ sends_in (deeds_of now c) now)
    parts = subst (λ (cs : List SenderCall). AllByRecursion HasOctets cs) (in_then deeds (deeds_of now c) b) some

    first' : AllByRecursion HasOctets (sends_in deeds b)
    first' = first-all (sends_in deeds b) (sends_in (deeds_of now c) now) parts

    m : Marks
    m = marks_along deeds b unmarked

    come : HasCome now.tx m
    come = come-then (sends_in deeds b) b.tx now.tx unmarked m begins first'
        (deeds-fall deeds b unmarked begins first').run

    falls : Falls now (does_all (deeds_of now c) now) m (marks_along (deeds_of now c) now m)
        (sends_in (deeds_of now c) now) (sent_along (deeds_of now c) now) (brought_along (deeds_of now c) now)
    falls = deeds-fall (deeds_of now c) now m come (last-all (sends_in deeds b) (sends_in (deeds_of now c) now) parts)

    before : marks_behind b deeds ≡ m
    before = behind-along b deeds e first' begins

    behind : marks_behind b (deeds ++ deeds_of now c) ≡ marks_along (deeds_of now c) now m
    behind = behind-along b (deeds ++ deeds_of now c) e some begins ∙ marks-then deeds (deeds_of now c) b unmarked
