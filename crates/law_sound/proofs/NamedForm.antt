-- A new block is canonical for what is read in it, and its SDUs are the PDUs that its end tells of.
use Rattle.std.proofs.Common.{◌≡◌, ℕ, zero, suc, Option, Some, None, List, [], ◌∷◌, ◌++◌, map, replicate}
use Rattle.std.proofs.Common.{length, Bool, Ok, refl, ap, sym, subst, ◌∙◌}
use Rattle.std.specs.Prelude.{slice_index_or}
use Rattle.bearer_types.specs.Sides.{sent_by}
use Rattle.harq.specs.declared.sender.Order.{Order}
use Rattle.harq.specs.declared.sender.Visit.TheVariants.{New}
use Rattle.l2_node.specs.Building.{visit, visited}
use Rattle.l2_node.specs.End.{End}
use Rattle.l2_node.specs.Writing.{new_block}
use Rattle.l2_types.specs.declared.event.How.{How}
use Rattle.l2_types.specs.declared.side.Side.{Side}
use Rattle.mac_pdu.specs.declared.builder.Sdu.{Sdu}
use Rattle.mac_pdu.specs.declared.item.Bsr.{Bsr}
use Rattle.mac_pdu.specs.declared.item.Control.{Control}
use Rattle.mac_pdu.specs.declared.item.Control.TheVariants as control
use Rattle.mac_pdu.specs.Items.{MacItem, front, element, padding, sdu_item}
use Rattle.mac_pdu.specs.Reading.{reading}
use Rattle.mac_pdu.specs.Writing.{canonical}
use Rattle.pdu_show.specs.declared.kinds.Layout.{Layout}
use Rattle.promises.specs.Built.{reported}
use Rattle.promises.specs.Names.{SentPdu, sent_pdus, Mode, IsNamed, AreNamed}
use Rattle.promises.specs.RightForm.{controls_in, sdus_in, unpadded, known_mode, mode_of}
use Rattle.promises.specs.Shown.{IsKnownAs, AreKnown}
use Rattle.law_deliver.specs.AmFlow.Air.{HasCome}
use Rattle.law_node.specs.Blocks.{report, all_sdus}
use Rattle.law_node.specs.Calls.{Turn, Call, Visits, IsGiven, AreGiven, reached}
use Rattle.law_node.specs.Names.{modes_of}
use Rattle.law_node.specs.Telling.{told_of}
use Rattle.law_node.proofs.Blocks.{has_what_was_written}
use Rattle.law_node.proofs.Naming.{names_what_it_sends}
use Rattle.law_run.proofs.AnyCalls.Blocks.{reached_whole, visited_whole, some_by}
use Rattle.law_sound.specs.NamedSteps.{NewBlocksHaveForm}

-- ---- what is in items, but for padding

abbrev pub Hold : List MacItem → List Control → List Sdu → Type 0
Hold items controls sdus = (controls_in items ≡ controls) × (sdus_in items ≡ sdus)

padding_holds : (ends : List ℕ) → Hold (map padding ends) [] []
padding_holds [] = (refl, refl)
padding_holds (n ∷ ends) = padding_holds ends

sdus_hold : (sdus : List Sdu) (ends : List ℕ) → Hold (map sdu_item sdus ++ map padding ends) [] sdus
sdus_hold [] ends = padding_holds ends
sdus_hold (d ∷ sdus) ends =
    let h = sdus_hold sdus ends in (h.0, ap (λ (ds : List Sdu). d ∷ ds) h.1)

report_holds : (r : Option Bsr) (sdus : List Sdu) (ends : List ℕ)
    → Hold ((reported r ++ map sdu_item sdus) ++ map padding ends) (controls_in (reported r)) sdus
report_holds None sdus ends = sdus_hold sdus ends
report_holds (Some b) sdus ends =
    let h = sdus_hold sdus ends in (ap (λ (cs : List Control). control.Report b ∷ cs) h.0, h.1)

abbrev pub items_of : ℕ → Option Bsr → List Sdu → List ℕ → List MacItem
items_of fronts r sdus ends = replicate fronts front ++ ((reported r ++ map sdu_item sdus) ++ map padding ends)

pub items_hold : (fronts : ℕ) (r : Option Bsr) (sdus : List Sdu) (ends : List ℕ)
    → Hold (items_of fronts r sdus ends) (controls_in (reported r)) sdus
items_hold zero r sdus ends = report_holds r sdus ends
items_hold (suc fronts) r sdus ends = items_hold fronts r sdus ends

report_again : (r : Option Bsr) → map element (controls_in (reported r)) ≡ reported r
report_again None = refl
report_again (Some b) = refl

unpadded_are : (items : List MacItem) (r : Option Bsr) (sdus : List Sdu) → Hold items (controls_in (reported r)) sdus
    → unpadded items ≡ reported r ++ map sdu_item sdus
unpadded_are items r sdus h =
    ap (λ (cs : List Control). map element cs ++ map sdu_item (sdus_in items)) h.0
    ∙ (ap (λ (ds : List Sdu). map element (controls_in (reported r)) ++ map sdu_item ds) h.1
    ∙ ap (λ (xs : List MacItem). xs ++ map sdu_item sdus) (report_again r))

-- ---- PDUs that are named by the modes of bearers, where these are known

one_known : (m : Option Mode) (o : Option Layout) (how : How) (sn : ℕ) (octets : List ℕ)
    → ((mode : Mode) → m ≡ Some mode → IsKnownAs o mode) → IsNamed m how sn octets
    → IsNamed (known_mode o) how sn octets
one_known None o how sn octets known named = absurd named
one_known (Some mode) None how sn octets known named = absurd (known mode refl)
one_known (Some mode) (Some layout) how sn octets known named =
    subst (λ (x : Mode). IsNamed (Some x) how sn octets) (sym (known mode refl)) named

all_known : (kinds : List (Option Layout)) (modes : ℕ → Option Mode) (sent : List SentPdu) (sdus : List Sdu)
    → AreKnown kinds modes → AreNamed modes sent sdus → AreNamed (mode_of kinds) sent sdus
all_known kinds modes [] [] known named = tt
all_known kinds modes [] (d ∷ sdus) known named = absurd named
all_known kinds modes (s ∷ sent) [] known named = absurd named
all_known kinds modes (s ∷ sent) (d ∷ sdus) known named = (
  named.0,
  one_known (modes s.lcid) (slice_index_or kinds s.lcid None) s.how s.sn d.octets (known s.lcid) named.1,
  all_known kinds modes sent sdus known named.2,
)

-- a visit leaves the bearers
known_visited : (kinds : List (Option Layout)) (tti : ℕ) (order : Order) (e : End) → AreKnown kinds (modes_of e)
    → AreKnown kinds (modes_of (visited tti order e))
unfolding visited
known_visited kinds tti order e known = known

-- ---- a block of any end

-- it is canonical for what is read in it, which is what the end tells of, in the modes of its bearers
pub record IsFormed (side : Side) (e : End) (t : Turn) : Type 0 where
  pub items : List MacItem
  pub read : reading (sent_by side) (new_block (visited t.tti t.order e) t.grant) ≡ Ok items
  pub writing_is : new_block (visited t.tti t.order e) t.grant
      ≡ canonical (unpadded items) (length (new_block (visited t.tti t.order e) t.grant))
  pub named : AreNamed (modes_of (visited t.tti t.order e)) (sent_pdus (told_of e (Visits t))) (sdus_in items)

reached_form : (side : Side) (maximum : ℕ) (reports : Bool) (past : List Call) (t : Turn) → AreGiven past
    → IsGiven (Visits t) → visit t.tti t.order (reached side maximum reports past) ≡ New
    → IsFormed side (reached side maximum reports past) t
reached_form side maximum reports past t g given new =
    let e = reached side maximum reports past in
    let v = visited t.tti t.order e in
    let sdus = all_sdus v t.grant v.buckets.channels in
    let some = some_by t.tti t.grant t.order e given.1 new in
    let b = has_what_was_written side maximum reports past g t.tti t.order t.grant some given.0 in
    let s : v.side ≡ side =
    (visited_whole side t.tti t.order e (reached_whole side maximum reports past)).side_is in
    let r = report v t.grant in
    let h = items_hold b.fronts r sdus b.ends in
    let items = items_of b.fronts r sdus b.ends in
    record {
      items = items;
      read = ap (λ (x : Side). reading (sent_by x) (new_block v t.grant)) (sym s) ∙ b.read;
      writing_is = b.writing_is
          ∙ (ap (λ (xs : List MacItem). canonical xs t.grant) (sym (unpadded_are items r sdus h))
          ∙ ap (canonical (unpadded items)) (sym b.size_is));
      named = subst (AreNamed (modes_of v) (sent_pdus (told_of e (Visits t)))) (sym h.1)
          (names_what_it_sends side maximum reports past g t.tti t.grant t.order new);
    }

pub new_block_formed : (side : Side) (e : End) (t : Turn) → HasCome side e → IsGiven (Visits t)
    → visit t.tti t.order e ≡ New → IsFormed side e t
new_block_formed side e t come given new =
    subst (λ (x : End). visit t.tti t.order x ≡ New → IsFormed side x t) (sym come.end_is)
    (reached_form side come.maximum come.reports come.past t come.given given) new

pub new_blocks_have_form : NewBlocksHaveForm
new_blocks_have_form kinds side e t come given new known =
    let f = new_block_formed side e t come given new in
    record {
      items = f.items;
      read = f.read;
      writing_is = f.writing_is;
      named = all_known kinds (modes_of (visited t.tti t.order e)) (sent_pdus (told_of e (Visits t))) (sdus_in f.items)
          (known_visited kinds t.tti t.order e known) f.named;
    }
