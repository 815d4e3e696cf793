-- What the actions on whole registers keep: sound registers, no device held, and how many devices there are; and where
-- they come to rest.
use Rattle.std.proofs.Common.{◌≡◌, Bool, true, false, ℕ, suc, List, [], ◌∷◌, ◌++◌, length, drop, map, refl, sym, ap, ◌∙◌, subst, arith, length-append, length-drop}
use Rattle.std.specs.List.{AllByRecursion}
use Rattle.jt_tap.specs.declared.Column.{Column}
use Rattle.jt_tap.specs.declared.Column.TheVariants.{Dr, Ir}
use Rattle.jt_tap.specs.declared.State.{State}
use Rattle.jt_tap.specs.declared.State.TheVariants.{Reset, Idle, DrPause, IrPause}
use Rattle.jt_tap.specs.declared.Work.{Work}
use Rattle.jt_tap.specs.declared.Work.TheVariants.{Resets, Captures, Shifts, Updates, Waits}
use Rattle.jt_tap.specs.Controller.{work, is_stable}
use Rattle.board_model.specs.Cells.{Member, Told}
use Rattle.pin_nets.specs.Wired.{Net}
use Rattle.board_model.specs.Nets.{told}
use Rattle.board_model.specs.Chain.{is_held}
use Rattle.board_model.specs.Whole.{AtRest, selected_bits_of, joined_bits, cut_back, capture_all, update_member, reset_member, capture, shift, update, settle, arrive, pass, along}
use Rattle.play_model.specs.Meaning.{scan_end, move_to, move_unless_there}
use Rattle.jt_tap.specs.Paths.{last_of}
use Rattle.board_model.specs.Resting.{IsRest}
use Rattle.board_model.proofs.OneCycle.{Free}
use Rattle.board_model.proofs.Walks.{at_rest}
use Rattle.board_model.specs.Sound.{AllSound}
use Rattle.board_model.proofs.ShiftCycles.{count-cut_back}
use Rattle.board_model.proofs.Sound.{Sound-capture_all, Sound-cut_back, Sound-update, Sound-reset}
use Rattle.play_model.proofs.PathsAndRuns.{StaysReset, reset-all-twice}

-- sound devices, none of them held by TRST, and so many
pub record IsReady (trst : Bool) (n : ℕ) (ms : List Member) : Type 0 where
  pub sound : AllSound ms
  pub free : Free trst ms
  pub count : length ms ≡ n

-- the same of a board at rest
abbrev pub Ready : ℕ → AtRest → Type 0
Ready n m = IsReady m.trst n m.members

free-capture_all : (trst : Bool) (column : Column) (about : ℕ → Told) (k : ℕ) (ms : List Member) → Free trst ms → Free trst (capture_all column about k ms)
free-capture_all trst column about k [] free = tt
free-capture_all trst column about k (m ∷ ms) free = (free.0, free-capture_all trst column about (suc k) ms free.1)

count-capture_all : (column : Column) (about : ℕ → Told) (k : ℕ) (ms : List Member) → length (capture_all column about k ms) ≡ length ms
count-capture_all column about k [] = refl
count-capture_all column about k (m ∷ ms) = ap (λ n. suc n) (count-capture_all column about (suc k) ms)

free-cut_back : (trst : Bool) (column : Column) (bits : List Bool) (ms : List Member) → Free trst ms → Free trst (cut_back column bits ms)
free-cut_back trst column bits [] free = tt
free-cut_back trst column bits (m ∷ ms) free = (free.0, free-cut_back trst column (drop (length (selected_bits_of column m)) bits) ms free.1)

free-update : (trst : Bool) (column : Column) (ms : List Member) → Free trst ms → Free trst (map (update_member column) ms)
free-update trst column [] free = tt
free-update trst column (m ∷ ms) free = (free.0, free-update trst column ms free.1)

free-reset : (trst : Bool) (ms : List Member) → Free trst ms → Free trst (map reset_member ms)
free-reset trst [] free = tt
free-reset trst (m ∷ ms) free = (free.0, free-reset trst ms free.1)

pub count-map : (f : Member → Member) (ms : List Member) → length (map f ms) ≡ length ms
count-map f [] = refl
count-map f (m ∷ ms) = ap (λ n. suc n) (count-map f ms)

shifted-length : (t xs : List Bool) → length (drop (length t) (xs ++ t)) ≡ length xs
shifted-length t xs = omega (arith, length-drop (length t) (xs ++ t), length-append xs t)

ready-capture : (column : Column) (n : ℕ) (m : AtRest) → Ready n m → Ready n (capture column m)
ready-capture column n m ready = record {
  sound = Sound-capture_all column (told m.nets m.members) 0 m.members ready.sound;
  free = free-capture_all m.trst column (told m.nets m.members) 0 m.members ready.free;
  count = count-capture_all column (told m.nets m.members) 0 m.members ∙ ready.count;
}

ready-shift : (column : Column) (t : List Bool) (n : ℕ) (m : AtRest) → Ready n m → Ready n (shift column t m)
ready-shift column t n m ready =
    let line = drop (length t) (joined_bits column m.members ++ t) in
    record {
      sound = Sound-cut_back column line m.members ready.sound (shifted-length t (joined_bits column m.members));
      free = free-cut_back m.trst column line m.members ready.free;
      count = count-cut_back column line m.members ∙ ready.count;
    }

ready-update : (column : Column) (n : ℕ) (m : AtRest) → Ready n m → Ready n (update column m)
ready-update column n m ready = record {
  sound = Sound-update column m.members ready.sound;
  free = free-update m.trst column m.members ready.free;
  count = count-map (update_member column) m.members ∙ ready.count;
}

ready-reset : (trst : Bool) (n : ℕ) (ms : List Member) → IsReady trst n ms → IsReady trst n (map reset_member ms)
ready-reset trst n ms ready = record {
  sound = Sound-reset ms ready.sound;
  free = free-reset trst ms ready.free;
  count = count-map reset_member ms ∙ ready.count;
}

pub ready-settle : (place : State) (trst : Bool) (nets : List Net) (ms : List Member) (n : ℕ) → is_stable place ≡ true → IsReady trst n ms
    → Ready n (settle (at_rest place trst nets ms))
ready-settle Reset trst nets ms n stable ready = ready
ready-settle Idle trst nets ms n stable ready = ready
ready-settle DrPause trst nets ms n stable ready = ready-update Dr n (at_rest DrPause trst nets ms) ready
ready-settle IrPause trst nets ms n stable ready = ready-update Ir n (at_rest IrPause trst nets ms) ready
ready-settle _ trst nets ms n stable ready = absurd (cc)

-- the devices as a scan's shift finds them
pub ready-to-shift : (column : Column) (place : State) (trst : Bool) (nets : List Net) (ms : List Member) (n : ℕ) → is_stable place ≡ true
    → IsReady trst n ms → Ready n (capture column (settle (at_rest place trst nets ms)))
ready-to-shift column place trst nets ms n stable ready =
    ready-capture column n (settle (at_rest place trst nets ms)) (ready-settle place trst nets ms n stable ready)

-- at rest in a place, ready, and reset if that is RESET
pub record IsEnd (to : State) (n : ℕ) (m : AtRest) : Type 0 where
  pub place : m.place ≡ to
  pub ready : Ready n m
  pub kept : StaysReset m.place m.members

arrive-end : (to : State) (n : ℕ) (m : AtRest) → is_stable to ≡ true → Ready n m → IsEnd to n (arrive to m)
arrive-end Reset n m stable ready = record { place = refl; ready = ready-reset m.trst n m.members ready; kept = λ e. reset-all-twice m.members }
arrive-end Idle n m stable ready = record { place = refl; ready = ready; kept = λ e. absurd (cc) }
arrive-end DrPause n m stable ready = record { place = refl; ready = ready-capture Dr n m ready; kept = λ e. absurd (cc) }
arrive-end IrPause n m stable ready = record { place = refl; ready = ready-capture Ir n m ready; kept = λ e. absurd (cc) }
arrive-end _ n m stable ready = absurd (cc)

pub move-end : (place to : State) (trst : Bool) (nets : List Net) (ms : List Member) (n : ℕ) → is_stable place ≡ true → is_stable to ≡ true
    → IsReady trst n ms → IsEnd to n (move_to to (at_rest place trst nets ms))
move-end place to trst nets ms n here there ready =
    arrive-end to n (settle (at_rest place trst nets ms)) there (ready-settle place trst nets ms n here ready)

pub maybe-end : (place to : State) (trst : Bool) (nets : List Net) (ms : List Member) (n : ℕ) → is_stable place ≡ true → is_stable to ≡ true
    → IsReady trst n ms → StaysReset place ms → IsEnd to n (move_unless_there to (at_rest place trst nets ms))
maybe-end Reset Reset trst nets ms n here there ready kept = record { place = refl; ready = ready; kept = kept }
maybe-end Idle Idle trst nets ms n here there ready kept = record { place = refl; ready = ready; kept = kept }
maybe-end DrPause DrPause trst nets ms n here there ready kept = record { place = refl; ready = ready; kept = kept }
maybe-end IrPause IrPause trst nets ms n here there ready kept = record { place = refl; ready = ready; kept = kept }
maybe-end Reset Idle trst nets ms n here there ready kept = move-end Reset Idle trst nets ms n here there ready
maybe-end Reset DrPause trst nets ms n here there ready kept = move-end Reset DrPause trst nets ms n here there ready
maybe-end Reset IrPause trst nets ms n here there ready kept = move-end Reset IrPause trst nets ms n here there ready
maybe-end Reset _ trst nets ms n here there ready kept = absurd (cc)
maybe-end Idle Reset trst nets ms n here there ready kept = move-end Idle Reset trst nets ms n here there ready
maybe-end Idle DrPause trst nets ms n here there ready kept = move-end Idle DrPause trst nets ms n here there ready
maybe-end Idle IrPause trst nets ms n here there ready kept = move-end Idle IrPause trst nets ms n here there ready
maybe-end Idle _ trst nets ms n here there ready kept = absurd (cc)
maybe-end DrPause Reset trst nets ms n here there ready kept = move-end DrPause Reset trst nets ms n here there ready
maybe-end DrPause Idle trst nets ms n here there ready kept = move-end DrPause Idle trst nets ms n here there ready
maybe-end DrPause IrPause trst nets ms n here there ready kept = move-end DrPause IrPause trst nets ms n here there ready
maybe-end DrPause _ trst nets ms n here there ready kept = absurd (cc)
maybe-end IrPause Reset trst nets ms n here there ready kept = move-end IrPause Reset trst nets ms n here there ready
maybe-end IrPause Idle trst nets ms n here there ready kept = move-end IrPause Idle trst nets ms n here there ready
maybe-end IrPause DrPause trst nets ms n here there ready kept = move-end IrPause DrPause trst nets ms n here there ready
maybe-end IrPause _ trst nets ms n here there ready kept = absurd (cc)
maybe-end _ to trst nets ms n here there ready kept = absurd (cc)

end-of-scan : (column : Column) (end : State) (n : ℕ) (m : AtRest) → is_stable end ≡ true → Ready n m → IsEnd end n (scan_end column end m)
end-of-scan Dr DrPause n m stable ready = record { place = refl; ready = ready; kept = λ e. absurd (cc) }
end-of-scan Ir IrPause n m stable ready = record { place = refl; ready = ready; kept = λ e. absurd (cc) }
end-of-scan Dr Reset n m stable ready = arrive-end Reset n (update Dr m) stable (ready-update Dr n m ready)
end-of-scan Dr Idle n m stable ready = arrive-end Idle n (update Dr m) stable (ready-update Dr n m ready)
end-of-scan Dr IrPause n m stable ready = arrive-end IrPause n (update Dr m) stable (ready-update Dr n m ready)
end-of-scan Dr _ n m stable ready = absurd (cc)
end-of-scan Ir Reset n m stable ready = arrive-end Reset n (update Ir m) stable (ready-update Ir n m ready)
end-of-scan Ir Idle n m stable ready = arrive-end Idle n (update Ir m) stable (ready-update Ir n m ready)
end-of-scan Ir DrPause n m stable ready = arrive-end DrPause n (update Ir m) stable (ready-update Ir n m ready)
end-of-scan Ir _ n m stable ready = absurd (cc)

-- where a scan rests
pub scan-rests : (column : Column) (t : List Bool) (place end : State) (trst : Bool) (nets : List Net) (ms : List Member) (n : ℕ)
    → is_stable place ≡ true → is_stable end ≡ true → IsReady trst n ms
    → IsEnd end n (scan_end column end (shift column t (capture column (settle (at_rest place trst nets ms)))))
scan-rests column t place end trst nets ms n here there ready =
    let found = capture column (settle (at_rest place trst nets ms)) in
    end-of-scan column end n (shift column t found) there
    (ready-shift column t n found (ready-to-shift column place trst nets ms n here ready))

ready-pass : (w : Work) (n : ℕ) (m : AtRest) → Ready n m → Ready n (pass w m)
ready-pass Resets n m ready = ready-reset m.trst n m.members ready
ready-pass (Captures column) n m ready = ready-capture column n m ready
ready-pass (Shifts column) n m ready = ready-shift column (false ∷ []) n m ready
ready-pass (Updates column) n m ready = ready-update column n m ready
ready-pass Waits n m ready = ready

kept-pass : (s : State) (m : AtRest) → StaysReset s (pass (work s) m).members
kept-pass s m e = subst (λ (t : State). map reset_member (pass (work t) m).members ≡ (pass (work t) m).members) (sym e) (reset-all-twice m.members)

-- where a stated path rests
pub along-rests : (path : List State) (n : ℕ) (m : AtRest) → Ready n m → StaysReset m.place m.members → IsEnd (last_of m.place path) n (along path m)
along-rests [] n m ready kept = record { place = refl; ready = ready; kept = kept }
along-rests (s ∷ path) n m ready kept =
    along-rests path n (at_rest s (pass (work s) m).trst (pass (work s) m).nets (pass (work s) m).members)
    (ready-pass (work s) n m ready) (kept-pass s m)

free-held : (trst : Bool) (place : State) (ms : List Member) → Free trst ms → AllByRecursion (λ d. is_held trst d ≡ true → place ≡ Reset) ms
free-held trst place [] free = tt
free-held trst place (m ∷ ms) free = (λ held. absurd (cc (free.0, held)), free-held trst place ms free.1)

-- An end is at rest.
pub end-is-rest : (to : State) (n : ℕ) (m : AtRest) → is_stable to ≡ true → IsEnd to n m → IsRest m
end-is-rest to n m stable end = record {
  stable = ap is_stable end.place ∙ stable;
  at_reset = end.kept;
  held = free-held m.trst m.place m.members end.ready.free;
}
