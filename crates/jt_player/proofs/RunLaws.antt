-- What became of a run, from what one of its two writers was told.
use Rattle.std.proofs.Common.{◌≡◌, ◌≢◌, ◌⊎◌, false, ℕ, List, [], inl, inr, Result, Ok, Err, refl, sym, ap, subst, ◌∙◌}
use Rattle.std.specs.Prelude.{IfOk, OnOk, Option, IsErr, codes, is_ok}
use Rattle.std.specs.Io.KnownBytes.{Appends}
use Rattle.std.proofs.KnownBytes.{Appends-nil}
use Rattle.byte_streams.specs.Counts.{CountedView}
use Rattle.byte_streams.specs.Writes.{AppendsFront, WritesAll}
use Rattle.byte_streams.specs.declared.counting.Broken.{Broken}
use Rattle.board_model.specs.Chain.{BoardState}
use Rattle.svf_words.specs.declared.fault.Code.TheVariants.{NoMemory}
use Rattle.svf_words.specs.declared.fault.SvfFault.{SvfFault}
use Rattle.svf_parse.specs.View.{memory_fault}
use Rattle.play_direct.specs.Accepting.{Refuses}
use Rattle.jt_player.specs.Running.{Happens, Run, Tells, memory_run, refused_run}
use Rattle.jt_player.specs.Showing.{refusal_line}

pub on_ok : {A E : Type 0} (r : Result A E) (P : Type 0) → P → OnOk r P
on_ok (Ok x) P p = p
on_ok (Err e) P p = tt

on_ok-with : {A E : Type 0} (r : Result A E) (P Q : Type 0) → (P → Q) → OnOk r P → OnOk r Q
on_ok-with (Ok x) P Q f p = f p
on_ok-with (Err e) P Q f p = tt

-- a writer that was left alone
nothing-told : (known : Option (List ℕ)) (bytes : List ℕ) → bytes ≡ [] → Appends known known bytes
nothing-told known bytes none = subst (Appends known known) (sym none) (Appends-nil known)

front-of-nothing : (known : Option (List ℕ)) (bytes : List ℕ) → bytes ≡ [] → AppendsFront known known bytes
front-of-nothing known bytes none = record { sent = []; rest = []; split = none; appends = Appends-nil known }

-- what a writer says of its failures after an answer
failures-after : {W A E : Type 0} (contents : W → Option (List ℕ)) (old new : CountedView W) (bytes : List ℕ) (r : Result A E)
    → WritesAll contents old new bytes r → OnOk r (new.failures ≡ 0)
failures-after contents old new bytes (Ok x) writes = writes.ok.0 refl
failures-after contents old new bytes (Err e) writes = tt

one-or-none : (n : ℕ) → n ≡ 0 → n ≡ 1 → ⊥
one-or-none n none one = let bad : 0 ≡ 1 = sym none ∙ one in cc

-- the output was told of the run, and the errors were left alone
pub happens-out : {W E : Type 0} (contents : W → Option (List ℕ)) (errors : E → Option (List ℕ)) (run : Run) (before after : BoardState)
    (out out_after : CountedView W) (err : CountedView E) (r : Result ℕ Broken) → run.err ≡ [] → err.failures ≡ 0 → WritesAll contents out out_after run.out r
    → IfOk r (λ s. s ≡ run.status) → OnOk r (after ≡ run.board) → (after ≡ before) ⊎ (after ≡ run.board)
    → Happens contents errors run before after out out_after err err r
happens-out contents errors run before after out out_after err r silent none writes status left board = record {
  status = status;
  broken = (λ e. inl (writes.broken.0 e), back);
  unbroken = on_ok-with r _ _ (λ zero. (zero, none)) (failures-after contents out out_after run.out r writes);
  out_whole = writes.whole;
  out_front = writes.front;
  err_whole = on_ok r _ (nothing-told (errors err.inner) run.err silent);
  err_front = front-of-nothing (errors err.inner) run.err silent;
  left = left;
  board = board;
}
  where
    back : (out_after.failures ≡ 1) ⊎ (err.failures ≡ 1) → IsErr r
    back (inl lost) = writes.broken.1 lost
    back (inr lost) = absurd (one-or-none err.failures none lost)

-- the errors were told of the run, and the output and the board were left alone
pub happens-err : {W E : Type 0} (contents : W → Option (List ℕ)) (errors : E → Option (List ℕ)) (run : Run) (before : BoardState)
    (out : CountedView W) (err err_after : CountedView E) (r : Result ℕ Broken) → run.out ≡ [] → run.board ≡ before → out.failures ≡ 0
    → WritesAll errors err err_after run.err r → IfOk r (λ s. s ≡ run.status)
    → Happens contents errors run before before out out err err_after r
happens-err contents errors run before out err err_after r silent same none writes status = record {
  status = status;
  broken = (λ e. inr (writes.broken.0 e), back);
  unbroken = on_ok-with r _ _ (λ zero. (none, zero)) (failures-after errors err err_after run.err r writes);
  out_whole = on_ok r _ (nothing-told (contents out.inner) run.out silent);
  out_front = front-of-nothing (contents out.inner) run.out silent;
  err_whole = writes.whole;
  err_front = writes.front;
  left = on_ok r _ (sym same);
  board = inl refl;
}
  where
    back : (out.failures ≡ 1) ⊎ (err_after.failures ≡ 1) → IsErr r
    back (inl lost) = absurd (one-or-none out.failures none lost)
    back (inr lost) = writes.broken.1 lost

-- another answer that is Ok where this one is
pub WritesAll-like : {W A B E F : Type 0} {contents : W → Option (List ℕ)} {old new : CountedView W} {bytes : List ℕ} (r : Result A E) (s : Result B F)
    → is_ok r ≡ is_ok s → WritesAll contents old new bytes r → WritesAll contents old new bytes s
WritesAll-like (Ok x) (Ok y) same writes = record { ok = writes.ok; broken = writes.broken; whole = writes.whole; front = writes.front }
WritesAll-like (Err x) (Err y) same writes = record { ok = writes.ok; broken = writes.broken; whole = tt; front = writes.front }
WritesAll-like (Ok x) (Err y) same writes = absurd (cc)
WritesAll-like (Err x) (Ok y) same writes = absurd (cc)

pub not-ok : {B F : Type 0} (s : Result B F) → IsErr s → false ≡ is_ok s
not-ok (Ok y) is = absurd (cc)
not-ok (Err y) is = refl

module _ {W E : Type 0} (contents : W → Option (List ℕ)) (errors : E → Option (List ℕ)) (text : List ℕ) (before : BoardState) where
  -- a text that is not played, whose run is one of these
  pub record IsTold (runs : Run → Type 0) (out : CountedView W) (err err_after : CountedView E) (r : Result ℕ Broken) : Type 0 where
    pub run : Run
    pub is : runs run
    pub happens : Happens contents errors run before before out out err err_after r

  -- a fault that is want of memory, or another
  pub refused-or-memory : (runs : Run → Type 0) → runs (memory_run before) → ((fault : SvfFault) → Refuses text fault → runs (refused_run fault before))
      → (fault : SvfFault) (out : CountedView W) (err err_after : CountedView E) (r : Result ℕ Broken) → out.failures ≡ 0
      → (fault ≢ memory_fault → Refuses text fault)
      → ((fault.code ≡ NoMemory) × Tells errors err err_after (codes "memory\n") 4 r)
      ⊎ ((fault.code ≢ NoMemory) × Tells errors err err_after (refusal_line fault) 2 r)
      → IsTold runs out err err_after r
  refused-or-memory runs memory other fault out err err_after r none why (inl told) = record {
    run = memory_run before;
    is = memory;
    happens = happens-err contents errors (memory_run before) before out err err_after r refl refl none told.1.writes told.1.is_status;
  }
  refused-or-memory runs memory other fault out err err_after r none why (inr told) = record {
    run = refused_run fault before;
    is = other fault (why (λ e. told.0 (ap (λ (f : SvfFault). f.code) e)));
    happens = happens-err contents errors (refused_run fault before) before out err err_after r refl refl none told.1.writes told.1.is_status;
  }
