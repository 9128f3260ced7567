-- The test loop returns SDUs to the terminal's bearers (TS 36.509 5.4).
use Rattle.std.specs.Prelude.{ℕ, ◌==◌, if◌then◌else◌, Option, Some, None, List, [], ◌∷◌}
use Rattle.air_record.specs.declared.record.Record.TheVariants as records
use Rattle.bearer_types.specs.declared.event.Event.TheVariants.{Drop}
use Rattle.l2_bits.specs.declared.fault.SubmitRefusal.{SubmitRefusal}
use Rattle.l2_node.specs.Finding.{has}
use Rattle.l2_node.specs.Submitting.{refusal, submitted}
use Rattle.l2_types.specs.declared.event.Lost.TheVariants as losts
use Rattle.l2_types.specs.declared.side.Side.TheVariants.{Ue}
use Rattle.test_loop.specs.declared.Kept.{Kept}
use Rattle.test_loop.specs.declared.Kept.TheVariants.{Now, Later, Full}
use Rattle.test_loop.specs.declared.Mode.{Mode}
use Rattle.test_loop.specs.Items.{Item}
use Rattle.test_loop.specs.Loops.{State as Looping, is_on, taken_answer, after_taken, after_set}
use Rattle.air_link.specs.Link.{Link, says}
use Rattle.air_link.specs.Telling.{submits}

-- an SDU that finds no place is dropped
abbrev pub loses : ℕ → Link → Link
loses lcid l = says (records.Of Ue (Drop lcid losts.Loop)) l

abbrev pub returns_by : Option SubmitRefusal → ℕ → List ℕ → Link → Link
returns_by (Some broken) lcid octets l = loses lcid l
returns_by None lcid octets l =
    submits Ue lcid
    (says (records.Looped lcid octets) (record l { ue = submitted lcid octets l.ue }))

-- an SDU is submitted on the uplink
abbrev pub returns : ℕ → List ℕ → Link → Link
returns lcid octets l = if has lcid l.ue.bearers
    then returns_by (refusal lcid octets l.ue) lcid octets l else loses lcid l

abbrev pub returns_all : List Item → Link → Link
returns_all [] l = l
returns_all (i ∷ is) l = returns_all is (returns i.lcid i.octets l)

-- ---- an SDU that went up is taken by the loop

abbrev pub kept_by : Kept → ℕ → Link → Link
kept_by (Now octets) lcid l = returns lcid octets l
kept_by Later lcid l = l
kept_by Full lcid l = loses lcid l

abbrev pub takes : Item → Link → Link
takes i l = if is_on l.looping.mode
    then kept_by (taken_answer l.looping i.octets) i.lcid
    (record l { looping = after_taken l.looping i }) else l

abbrev pub takes_all : List Item → Link → Link
takes_all [] l = l
takes_all (i ∷ is) l = takes_all is (takes i l)

-- those that wait for it
unfoldable pub loops : Link → Link
loops l = takes_all l.ups (record l { ups = [] })

-- ---- SDUs that are owed

abbrev pub owed : Looping → List Item
owed s = if s.left == 0 then s.kept else []

abbrev pub paid : Looping → Looping
paid s = if s.left == 0 then record s { kept = [] } else s

unfoldable pub pays : Link → Link
pays l = returns_all (owed l.looping) (record l { looping = paid l.looping })

-- another mode, by which all that is kept is owed
unfoldable pub loop_set : Mode → Link → Link
loop_set mode l = pays (record l { looping = after_set l.looping mode })
