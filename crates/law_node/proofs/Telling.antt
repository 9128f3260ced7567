-- What the bearers tell of a new block.
use Rattle.std.proofs.Common.{◌≡◌, ℕ, Bool, true, false, List, [], ◌∷◌, ◌++◌, get_or, append_assoc, append-nil, refl}
use Rattle.std.proofs.Common.{ap, sym, ◌∙◌}
use Rattle.bearer.specs.Bearer.{Of, Life}
use Rattle.bearer.specs.Taking.{told}
use Rattle.bearer_types.specs.declared.event.Event.{Event}
use Rattle.harq.specs.declared.sender.Order.{Order}
use Rattle.harq.specs.declared.sender.Visit.{Visit}
use Rattle.harq.specs.declared.sender.Visit.TheVariants.{New}
use Rattle.harq.specs.Sending.{Sending}
use Rattle.l2_types.specs.declared.channel.Channel.{Channel}
use Rattle.l2_types.specs.declared.side.Side.{Side}
use Rattle.prioritise.specs.ShareLaws.{IsSound}
use Rattle.l2_node.specs.Building.{visited, visit, building, visit_events as told_of}
use Rattle.l2_node.specs.End.{End}
use Rattle.l2_node.specs.Finding.{Numbers, find, has, bearer_at, lowest}
use Rattle.l2_node.specs.Writing.{shares, Work, work, nothing_written, writes, all_write, written}
use Rattle.law_node.specs.Calls.{Call, AreGiven, reached}
use Rattle.law_node.specs.Sharing.{share, held}
use Rattle.law_node.specs.Waiting.{told_on_channel, all_told}
use Rattle.law_node.proofs.Places.{found}
use Rattle.law_node.proofs.Sharing.{Apart, sound_apart}
use Rattle.law_node.proofs.Sound.{visiting_sound}
use Rattle.law_node.proofs.Writers.{one_by, all_by, all_same}

abbrev teller : Sending → Numbers → List ℕ → Of Life → Channel → List Event
teller sender numbers amounts b c =
    told b.channel.lcid b.state.flow (get_or amounts c.lcid 0) (lowest sender numbers c.lcid)

one_is : (e : End) (grant : ℕ) (c : Channel) (t : Bool) → has c.lcid e.bearers ≡ t
    → one_by (teller e.sender e.numbers (shares e grant)) e.bearers c ≡ told_on_channel e grant c
one_is e grant c true h =
    rw h (ap (λ (l : ℕ). told l (bearer_at e.bearers (find c.lcid e.bearers)).state.flow (share e grant c) (held e c))
    (found c.lcid e.bearers h))
one_is e grant c false h = rw h refl

all_are : (e : End) (grant : ℕ) (cs : List Channel)
    → all_by (teller e.sender e.numbers (shares e grant)) e.bearers cs ≡ all_told e grant cs
all_are e grant [] = refl
all_are e grant (c ∷ cs) =
    ap (λ (es : List Event). es ++ all_by (teller e.sender e.numbers (shares e grant)) e.bearers cs)
    (one_is e grant c (has c.lcid e.bearers) refl)
    ∙ ap (λ (es : List Event). told_on_channel e grant c ++ es) (all_are e grant cs)

tells_by : (sender : Sending) (numbers : Numbers) (amounts : List ℕ) (c : Channel) (w : Work) (t : Bool)
    → has c.lcid w.bearers ≡ t
    → (writes c.lcid (get_or amounts c.lcid 0) (lowest sender numbers c.lcid) w).block.events
    ≡ w.block.events ++ one_by (teller sender numbers amounts) w.bearers c
tells_by sender numbers amounts c w true h = rw h refl
tells_by sender numbers amounts c w false h = rw h (sym (append-nil w.block.events))

tells_all : (sender : Sending) (numbers : Numbers) (amounts : List ℕ) (cs : List Channel) (w : Work) → Apart cs
    → (all_write sender numbers amounts cs w).block.events ≡ w.block.events
    ++ all_by (teller sender numbers amounts) w.bearers cs
tells_all sender numbers amounts [] w a = sym (append-nil w.block.events)
tells_all sender numbers amounts (c ∷ cs) w a =
    let g = teller sender numbers amounts in
    let amount = get_or amounts c.lcid 0 in
    let low = lowest sender numbers c.lcid in
    let w' = writes c.lcid amount low w in
    let one = one_by g w.bearers c in
    tells_all sender numbers amounts cs w' a.2
    ∙ ap (λ (es : List Event). es ++ all_by g w'.bearers cs)
    (tells_by sender numbers amounts c w (has c.lcid w.bearers) refl)
    ∙ ap (λ (es : List Event). (w.block.events ++ one) ++ es) (all_same g w c.lcid amount low cs a.1)
    ∙ append_assoc w.block.events one (all_by g w.bearers cs)

told_is : (e : End) (grant : ℕ) → IsSound e.buckets
    → (written e grant).block.events ≡ all_told e grant e.buckets.channels
unfolding written
told_is e grant s =
    let cs = e.buckets.channels in
    tells_all e.sender e.numbers (shares e grant) cs (work e.bearers (nothing_written e.side))
    (sound_apart cs s.channels.within s.channels.distinct)
    ∙ all_are e grant cs

pub tells_in_order : (side : Side) (maximum : ℕ) (reports : Bool) (calls : List Call) → AreGiven calls
    → (tti grant : ℕ) (order : Order)
    → visit tti order (reached side maximum reports calls) ≡ New
    → building tti grant order (reached side maximum reports calls)
    ≡ all_told (visited tti order (reached side maximum reports calls)) grant
    (visited tti order (reached side maximum reports calls)).buckets.channels
unfolding building
tells_in_order side maximum reports calls g tti grant order new =
    let e = reached side maximum reports calls in
    ap (λ (v : Visit). told_of v grant (visited tti order e)) new
    ∙ told_is (visited tti order e) grant (visiting_sound side maximum reports calls tti order g)
