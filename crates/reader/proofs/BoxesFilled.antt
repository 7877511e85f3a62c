-- What is listed fills the file: a list that was accepted is a list of boxes, from where it starts to where what holds it ends. So each box is listed once: their starts rise.
use Prim.Native.Nat.{ℕ, ◌+◌, ◌≤◌, ◌<◌}
use native.Mathlib.Omega.{arith}
use mathlib.Core.Path.{◌≡◌}
use mathlib.Core.List.{List, [], ◌∷◌, ◌++◌, append_assoc, append-nil}
use lib.ListN.{length}
use lib.Seq.{length-take-le}
use Rattle.reader.specs.BoxRow.{end_of}
use Rattle.reader.specs.Boxes.{boxes, boxes_of}
use Rattle.reader.specs.BoxTree.{Fills, none, plain, superbox, RisingFrom}
use Rattle.reader.specs.declared.box_row.BoxEntry.{BoxEntry}
use Rattle.reader.proofs.BoxStepLaws.{plain_stands, plain_empty, superbox_stands, end_reached}
use Rattle.reader.proofs.BoxesWalk.{Walk, done, past, into, walk}

-- ---- no byte is left out

filled : {s : List ℕ} {depth at : ℕ} {es : List BoxEntry} → Walk s depth at es → at ≤ length s → Fills depth at (length s) es
filled {s} {depth} {at} (done h) i = rw (← end_reached s depth at h i) none
filled {s} {depth} {at} (past {e = e} h more) i =
    let p = plain_stands h in
    plain p.level p.begins p.ahead (plain_empty s depth at e h) (filled more p.inside)
filled {s} (into {e = e} h inner more) i =
    let q = superbox_stands h in
    let p = q.0 in
    let long = length-take-le (end_of e) s p.inside in
    let deeper = rw (long, p.level) at (filled inner (omega arith)) in
    superbox p.level p.begins p.ahead q.2 q.1 deeper (filled more p.inside)

-- every box of an accepted file, once, in file order: they fill it, and what a superbox holds fills its content
pub file_filled : (s : List ℕ) (es : List BoxEntry) → boxes_of s ≡ boxes es → Fills 1 0 (length s) es
file_filled s es e = filled (walk s 1 0 es e) (omega arith)

-- ---- no box is listed twice

rise_earlier : (at to : ℕ) (es : List BoxEntry) → at ≤ to → RisingFrom to es → RisingFrom at es
unfolding RisingFrom
rise_earlier at to [] h r = tt
rise_earlier at to (e ∷ rest) h r = (omega arith, r.1)

rise_past : (e : BoxEntry) (at to : ℕ) (rest : List BoxEntry) → e.start.0 ≡ at → at < to → RisingFrom to rest → RisingFrom at (e ∷ rest)
unfolding RisingFrom
rise_past e at to rest begins h r = (omega arith, rise_earlier (e.start.0 + 1) to rest (omega arith) r)

-- a list that fills an extent, and what follows it
rise_on : {depth at to : ℕ} {es : List BoxEntry} → Fills depth at to es → (then : List BoxEntry) → RisingFrom to then → RisingFrom at (es ++ then)
rise_on none then r = r
rise_on (plain {at = at} {e = e} {rest = rest} level begins ahead empty more) then r =
    rise_past e at (end_of e) (rest ++ then) begins (omega arith) (rise_on more then r)
rise_on (superbox {at = at} {e = e} {held = held} {rest = rest} level begins ahead opens deep inner more) then r =
    rw (append_assoc held rest then) (rise_past e at e.content.0 (held ++ (rest ++ then)) begins (omega arith) (rise_on inner (rest ++ then) (rise_on more then r)))

pub starts_rise : {depth at to : ℕ} {es : List BoxEntry} → Fills depth at to es → RisingFrom at es
unfolding RisingFrom
starts_rise {es = es} f = rw (append-nil es) at (rise_on f [] tt)

pub file_rising : (s : List ℕ) (es : List BoxEntry) → boxes_of s ≡ boxes es → RisingFrom 0 es
file_rising s es e = starts_rise (file_filled s es e)
