use Rattle.play_direct.proofs.stepping.scan.Goals as goal

pub returns-clause-board : goal.returns-clause-board
returns-clause-board c =
    λ m is. c.end_scan.ensures _ (c.shift.ensures _ (c.capture.ensures _ (c.settle.ensures m is)))

pub returns-clause-noted : goal.returns-clause-noted
returns-clause-noted c = λ m is. c.note.ensures _ (c.capture.ensures _ (c.settle.ensures m is))

-- ---- the board is at rest after each part of a scan

pub note-requires-clause-rests : goal.note-requires-clause-rests
note-requires-clause-rests c =
    record { state = _; is = c.capture.ensures _ (c.settle.ensures c.requires.rests.state c.requires.rests.is) }

pub shift-requires : goal.shift-requires
shift-requires c = record { state = _; is = c.capture.ensures _ (c.settle.ensures c.requires.rests.state c.requires.rests.is) }

pub end_scan-requires : goal.end_scan-requires
end_scan-requires c = record {
  state = _;
  is = c.shift.ensures _ (c.capture.ensures _ (c.settle.ensures c.requires.rests.state c.requires.rests.is));
}
