-- What a new block brings.
use Rattle.std.proofs.Common.{◌≡◌, ◌≤◌, ◌<◌, ℕ, ◌+◌, ◌-◌, nat_le, if◌then◌else◌, Bool, true, false, Option, Some, None}
use Rattle.std.proofs.Common.{Ok, List, [], ◌∷◌, ◌++◌, length, map, replicate, get_or, append_assoc, append-nil, refl}
use Rattle.std.proofs.Common.{ap, sym, ◌∙◌, subst, arith, inl, inr}
use Rattle.std.specs.List.{All}
use Rattle.std.proofs.lemmas.Bool.Decides.{nat_tests}
use Rattle.std.proofs.lemmas.List.Elements.{All-nil, All-cons, All-append, All-tail}
use Rattle.std.proofs.lemmas.List.Sums.{sum_by-cons}
use Rattle.bearer.specs.Bearer.{Of, Life}
use Rattle.bearer.specs.Taking.{pdus}
use Rattle.bearer_pdcp.specs.Shares.{FitsShare, in_block}
use Rattle.harq.specs.declared.sender.Order.{Order}
use Rattle.harq.specs.Sending.{Sending}
use Rattle.l2_types.specs.declared.channel.Channel.{Channel}
use Rattle.l2_types.specs.declared.side.Side.{Side}
use Rattle.l2_types.specs.declared.side.Side.TheVariants.{Nb, Ue}
use Rattle.mac_pdu.specs.declared.builder.Sdu.{Sdu}
use Rattle.mac_pdu.specs.declared.item.Bsr.{Bsr}
use Rattle.mac_pdu.specs.declared.item.Direction.{Direction}
use Rattle.mac_pdu.specs.declared.item.Direction.TheVariants.{Up}
use Rattle.mac_pdu.specs.declared.item.Control.TheVariants.{Report}
use Rattle.mac_pdu.specs.Items.{MacItem, front, padding, sdu_item, IsControl}
use Rattle.mac_pdu.specs.Laws.{Fits}
use Rattle.mac_pdu.specs.Reading.{reading}
use Rattle.mac_pdu.specs.Writing.{Parts, IsSdu, items_of, writing, padded, canonical, full_size}
use Rattle.mac_pdu.proofs.Canonical.{canonical_fits}
use Rattle.prioritise.proofs.ShareLemmas.{within_grant}
use Rattle.prioritise.specs.ShareLaws.{IsSound, IsOneOf}
use Rattle.prioritise.specs.Shares.{over}
use Rattle.l2_node.proofs.Rooms.{taken_up-append, sdus_fit, report_fits}
use Rattle.l2_node.specs.Building.{visited}
use Rattle.l2_node.specs.End.{End}
use Rattle.bearer_types.specs.Sides.{sent_by}
use Rattle.l2_node.specs.Finding.{Numbers, has, lowest}
use Rattle.l2_node.specs.Writing.{needs, shares, Work, work, nothing_written, taken_up, sdus_of, writes, all_write}
use Rattle.l2_node.specs.Writing.{written, with_report, left_of, filled, new_block}
use Rattle.law_node.specs.Blocks.{pdus_by, sdus_by, all_sdus, EachFits, report, IsBlockOf}
use Rattle.promises.specs.Built.{reported}
use Rattle.law_node.specs.Calls.{Call, AreGiven, reached}
use Rattle.law_node.specs.Sharing.{share}
use Rattle.law_node.proofs.Fitting.{pdus_fit}
use Rattle.law_node.proofs.Reports.{FitsIn, IsUp, report_fits_in, only_up}
use Rattle.law_node.proofs.Sharing.{Apart, sound_apart}
use Rattle.law_node.proofs.Writers.{one_by, all_by, all_same}
use Rattle.law_node.proofs.Sound.{visiting_sound}

-- ---- what the bearers write, one after the other

-- a block that takes SDUs keeps all else of its parts
abbrev with_more : List Sdu → Parts → Parts
with_more ss p = record p { sdus = p.sdus ++ ss }

-- the SDUs of the bearer of a channel
abbrev writer : Sending → Numbers → List ℕ → Of Life → Channel → List Sdu
writer sender numbers amounts b c =
    sdus_of c.lcid (pdus b.state.flow (get_or amounts c.lcid 0) (lowest sender numbers c.lcid))

all_are : (e : End) (grant : ℕ) (cs : List Channel)
    → all_sdus e grant cs ≡ all_by (writer e.sender e.numbers (shares e grant)) e.bearers cs
all_are e grant [] = refl
all_are e grant (c ∷ cs) = ap (λ (ss : List Sdu). sdus_by e grant c ++ ss) (all_are e grant cs)

writes_by : (sender : Sending) (numbers : Numbers) (amounts : List ℕ) (c : Channel) (w : Work) (t : Bool)
    → has c.lcid w.bearers ≡ t
    → (writes c.lcid (get_or amounts c.lcid 0) (lowest sender numbers c.lcid) w).block.parts
    ≡ with_more (one_by (writer sender numbers amounts) w.bearers c) w.block.parts
writes_by sender numbers amounts c w true h = rw h refl
writes_by sender numbers amounts c w false h =
    rw h (ap (λ (ss : List Sdu). record w.block.parts { sdus = ss }) (sym (append-nil w.block.parts.sdus)))

writes_all : (sender : Sending) (numbers : Numbers) (amounts : List ℕ) (cs : List Channel) (w : Work) → Apart cs
    → (all_write sender numbers amounts cs w).block.parts
    ≡ with_more (all_by (writer sender numbers amounts) w.bearers cs) w.block.parts
writes_all sender numbers amounts [] w a =
    ap (λ (ss : List Sdu). record w.block.parts { sdus = ss }) (sym (append-nil w.block.parts.sdus))
writes_all sender numbers amounts (c ∷ cs) w a =
    let g = writer sender numbers amounts in
    let share = get_or amounts c.lcid 0 in
    let held = lowest sender numbers c.lcid in
    let w' = writes c.lcid share held w in
    let one = one_by g w.bearers c in
    writes_all sender numbers amounts cs w' a.2
    ∙ ap (λ (p : Parts). with_more (all_by g w'.bearers cs) p)
    (writes_by sender numbers amounts c w (has c.lcid w.bearers) refl)
    ∙ ap (λ (ss : List Sdu). record w.block.parts { sdus = (w.block.parts.sdus ++ one) ++ ss })
    (all_same g w c.lcid share held cs a.1)
    ∙ ap (λ (ss : List Sdu). record w.block.parts { sdus = ss })
    (append_assoc w.block.parts.sdus one (all_by g w.bearers cs))

-- all that is written
written_is : (e : End) (grant : ℕ) → IsSound e.buckets
    → (written e grant).block.parts ≡ record {
      direction = sent_by e.side;
      controls = [];
      sdus = all_sdus e grant e.buckets.channels;
    }
unfolding written
written_is e grant s =
    let cs = e.buckets.channels in
    writes_all e.sender e.numbers (shares e grant) cs (work e.bearers (nothing_written e.side))
    (sound_apart cs s.channels.within s.channels.distinct)
    ∙ ap (λ (ss : List Sdu). record { direction = sent_by e.side; controls = []; sdus = ss }) (sym (all_are e grant cs))

-- ---- it fits

taken_up_of : (l : ℕ) (ps : List (List ℕ)) → taken_up (sdus_of l ps) ≡ in_block ps
taken_up_of l [] = refl
taken_up_of l (p ∷ ps) = ap (λ (n : ℕ). length p + 3 + n) (taken_up_of l ps)
    ∙ sym (sum_by-cons (λ (q : List ℕ). length q + 3) p ps)

-- SDUs of a block within so many octets
record AreFit (ss : List Sdu) (room : ℕ) : Type 0 where
  sdus : All IsSdu ss
  within : taken_up ss ≤ room

sdus_are : (l : ℕ) (ps : List (List ℕ)) → l < 11 → All (λ p. 1 ≤ length p) ps → in_block ps ≤ 9424
    → All IsSdu (sdus_of l ps)
sdus_are l [] lt some most = All-nil IsSdu
sdus_are l (p ∷ ps) lt some most =
    let sum = sum_by-cons (λ (q : List ℕ). length q + 3) p ps in
    All-cons IsSdu (record { lcid = l; octets = p }) (sdus_of l ps)
    (record { lcid = omega arith; octets = some 0 p (omega arith); short = omega (arith, sum, most) })
    (sdus_are l ps lt (All-tail (λ (q : List ℕ). 1 ≤ length q) p ps some) (omega (arith, sum, most)))

one_fits : (e : End) (grant : ℕ) (c : Channel) (t : Bool) → has c.lcid e.bearers ≡ t → c.lcid < 11
    → share e grant c ≤ 9424
    → (has c.lcid e.bearers ≡ true → FitsShare (share e grant c) (pdus_by e grant c))
    → AreFit (sdus_by e grant c) (share e grant c)
one_fits e grant c false h lt most f = rw h (record { sdus = All-nil IsSdu; within = omega arith })
one_fits e grant c true h lt most f =
    let fits = f h in
    let sum = taken_up_of c.lcid (pdus_by e grant c) in
    rw h (record {
      sdus = sdus_are c.lcid (pdus_by e grant c) lt fits.some (omega (arith, fits.within));
      within = omega (arith, sum, fits.within);
    })

all_fit : (e : End) (grant : ℕ) (cs : List Channel) → Apart cs → over cs (shares e grant) ≤ 9424
    → ((c : Channel) → IsOneOf c cs → has c.lcid e.bearers ≡ true → FitsShare (share e grant c) (pdus_by e grant c))
    → AreFit (all_sdus e grant cs) (over cs (shares e grant))
all_fit e grant [] a most f = record { sdus = All-nil IsSdu; within = omega arith }
all_fit e grant (c ∷ cs) a most f =
    let sum = sum_by-cons (λ (d : Channel). share e grant d) c cs in
    let one = one_fits e grant c (has c.lcid e.bearers) refl a.0 (omega (arith, sum, most)) (f c (inl refl)) in
    let ih = all_fit e grant cs a.2 (omega (arith, sum, most)) (λ d o. f d (inr o)) in
    let x = one.within in
    let y = ih.within in
    record {
      sdus = All-append IsSdu (sdus_by e grant c) (all_sdus e grant cs) one.sdus ih.sdus;
      within = omega (arith, sum, taken_up-append (sdus_by e grant c) (all_sdus e grant cs), x, y);
    }

-- ---- the report, and the padding

-- the parts of a block with a report
abbrev parts_of : Side → Option Bsr → List Sdu → Parts
parts_of side r ss = with_report r (record { direction = sent_by side; controls = []; sdus = ss })

report_is : (side : Side) (r : Option Bsr) (ss : List Sdu) (grant : ℕ) → taken_up ss ≤ grant + 2 → grant ≤ 9422
    → 1 ≤ grant → All IsSdu ss
    → IsUp side r → FitsIn r (left_of grant (record { direction = sent_by side; controls = []; sdus = ss }))
    → Fits (parts_of side r ss) grant
report_is side None ss grant room most some sdus up fits =
    let le = sdus_fit (record { direction = sent_by side; controls = []; sdus = ss }) grant refl room in
    record {
      held = record { controls = All-nil (IsControl (sent_by side)); sdus = sdus; short = omega (arith, le) };
      room = le;
      some = some;
    }
report_is Nb (Some r) ss grant room most some sdus up fits = absurd up
report_is Ue (Some r) ss grant room most some sdus up fits =
    let le = report_fits (record { direction = Up; controls = []; sdus = ss }) r grant refl room fits.room in
    record {
      held = record {
        controls = All-cons (IsControl Up) (Report r) [] fits.fields (All-nil (IsControl Up));
        sdus = sdus;
        short = omega (arith, le);
      };
      room = le;
      some = some;
    }

items_are : (side : Side) (r : Option Bsr) (ss : List Sdu)
    → items_of (parts_of side r ss) ≡ reported r ++ map sdu_item ss
items_are side None ss = refl
items_are side (Some r) ss = refl

direction_is : (side : Side) (r : Option Bsr) (ss : List Sdu) → (parts_of side r ss).direction ≡ sent_by side
direction_is side None ss = refl
direction_is side (Some r) ss = refl

-- items with padding before or behind them
record ArePadded (items all : List MacItem) : Type 0 where
  fronts : ℕ
  ends : List ℕ
  two : fronts ≤ 2
  one : length ends ≤ 1
  is : all ≡ replicate fronts front ++ (items ++ map padding ends)

padded_by : (items : List MacItem) (spare n : ℕ) (t : Bool) → nat_le spare 2 ≡ t
    → ArePadded items (if t then replicate spare front ++ items else items ++ padding n ∷ [])
padded_by items spare n true e =
    record {
      fronts = spare;
      ends = [];
      two = grind (arith, nat_tests);
      one = omega arith;
      is = ap (λ (xs : List MacItem). replicate spare front ++ xs) (sym (append-nil items));
    }
padded_by items spare n false e = record { fronts = 0; ends = n ∷ []; two = omega arith; one = omega arith; is = refl }

are_padded : (items : List MacItem) (size : ℕ) → ArePadded items (padded items size)
are_padded [] size = record { fronts = 0; ends = (size - 1) ∷ []; two = omega arith; one = omega arith; is = refl }
are_padded (p ∷ ps) size =
    padded_by (p ∷ ps) (size - length (writing (p ∷ ps))) (size - 1 - full_size (p ∷ ps))
    (nat_le (size - length (writing (p ∷ ps))) 2) refl

-- ---- the block

block_by : (e : End) (grant : ℕ) → IsSound e.buckets
    → (written e grant).block.parts ≡ record {
      direction = sent_by e.side;
      controls = [];
      sdus = all_sdus e grant e.buckets.channels;
    }
    → 1 ≤ grant → grant ≤ 9422 → EachFits e grant → IsBlockOf e grant
unfolding new_block filled shares
block_by e grant s w some most f =
    let cs = e.buckets.channels in
    let ss = all_sdus e grant cs in
    let r = report e grant in
    let within = within_grant e.buckets (needs e grant) (grant + 2) s.channels in
    let fit = all_fit e grant cs (sound_apart cs s.channels.within s.channels.distinct) (omega (arith, within, most))
    f in
    let room : taken_up ss ≤ grant + 2 = omega (arith, within, fit.within) in
    let fits_in =
    report_fits_in e.side e.reports (written e grant).bearers cs (left_of grant (written e grant).block.parts)
    s.channels.groups in
    let fits = report_is e.side r ss grant room most some fit.sdus
    (only_up e.side e.reports (written e grant).bearers cs (left_of grant (written e grant).block.parts))
    (subst (λ (p : Parts). FitsIn r (left_of grant p)) w fits_in) in
    let c = canonical_fits (parts_of e.side r ss) grant fits in
    let block : new_block e grant ≡ canonical (items_of (parts_of e.side r ss)) grant =
    ap (λ (p : Parts). canonical (items_of (with_report r p)) grant) w in
    let pads = are_padded (items_of (parts_of e.side r ss)) grant in
    record {
      size_is = ap length block ∙ c.size_is;
      writing_is = block ∙ ap (λ (xs : List MacItem). canonical xs grant) (items_are e.side r ss);
      fronts = pads.fronts;
      ends = pads.ends;
      two = pads.two;
      one = pads.one;
      read = ap (λ (xs : List ℕ). reading (sent_by e.side) xs) block
          ∙ ap (λ (d : Direction). reading d (canonical (items_of (parts_of e.side r ss)) grant))
          (sym (direction_is e.side r ss))
          ∙ c.again
          ∙ ap (λ (xs : List MacItem). Ok xs) pads.is
          ∙ ap (λ (xs : List MacItem). Ok (replicate pads.fronts front ++ (xs ++ map padding pads.ends)))
          (items_are e.side r ss);
    }

pub has_what_was_written : (side : Side) (maximum : ℕ) (reports : Bool) (calls : List Call) → AreGiven calls
    → (tti : ℕ) (order : Order) (grant : ℕ) → 1 ≤ grant → grant ≤ 9422
    → IsBlockOf (visited tti order (reached side maximum reports calls)) grant
has_what_was_written side maximum reports calls g tti order grant some most =
    let e = visited tti order (reached side maximum reports calls) in
    let s = visiting_sound side maximum reports calls tti order g in
    block_by e grant s (written_is e grant s) some most (pdus_fit side maximum reports calls tti order grant)
