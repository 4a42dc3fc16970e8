-- One text after another.
use Rattle.std.proofs.Common.{◌≡◌, ℕ, List, [], subst, ◌++◌, Option, refl, sym, ap, ◌∙◌, append_assoc, append-nil, length-append, arith, Result, Ok, Err}
use Rattle.palm_base.proofs.cited.StreamLemmas.{appended_both, appended_nothing}
use Rattle.palm_base.specs.Streams.{SinkState, Appended, AppendedProperFront}
use Rattle.palm_lang.specs.Writing.{AppendedUntil, IsLeft, Writes, HasStopCause}
use Rattle.palm_lang.specs.declared.stop.WriteStop.{WriteStop}
use Rattle.palm_lang.specs.declared.stop.WriteStop.TheVariants.{WriteFault, NoMemory}

-- ---- a text until a stop

-- at a fault of writing it is a proper front
pub stopped_at_fault : (was now : Option (List ℕ)) (text : List ℕ) → AppendedProperFront was now text → AppendedUntil WriteFault was now text
stopped_at_fault was now text f = record { front = f.front; back = f.back; whole = f.whole; left = f.proper; written = f.written }

-- a longer text has no less left
left_more : (stop : WriteStop) (back more : List ℕ) → IsLeft stop back → IsLeft stop (back ++ more)
left_more WriteFault back more l = omega (arith, length-append back more, l)
left_more NoMemory back more l = tt

-- before any of it, at want of memory
pub stopped_at_once : (was : Option (List ℕ)) (text : List ℕ) → AppendedUntil NoMemory was was text
stopped_at_once was text = record { front = []; back = text; whole = refl; left = tt; written = appended_nothing was }

-- the stop comes in the first of two texts
pub stopped_in_first : {stop : WriteStop} (was now : Option (List ℕ)) (x y : List ℕ) → AppendedUntil stop was now x → AppendedUntil stop was now (x ++ y)
stopped_in_first {stop} was now x y f = record {
  front = f.front;
  back = f.back ++ y;
  whole = ap (λ (z : List ℕ). z ++ y) f.whole ∙ append_assoc f.front f.back y;
  left = left_more stop f.back y f.left;
  written = f.written;
}

-- the stop comes in the second
pub stopped_in_second : {stop : WriteStop} (was mid now : Option (List ℕ)) (x y : List ℕ) → Appended was mid x → AppendedUntil stop mid now y → AppendedUntil stop was now (x ++ y)
stopped_in_second was mid now x y w f = record {
  front = x ++ f.front;
  back = f.back;
  whole = ap (λ (z : List ℕ). x ++ z) f.whole ∙ sym (append_assoc x f.front f.back);
  left = f.left;
  written = appended_both was mid now x f.front w f.written;
}

-- want of memory behind all of it
pub stopped_behind : (was now : Option (List ℕ)) (x : List ℕ) → Appended was now x → AppendedUntil NoMemory was now x
stopped_behind was now x w = record { front = x; back = []; whole = sym (append-nil x); left = tt; written = w }

-- ---- writes

-- nothing of a text, for want of memory
pub writes_nothing : {T : Type 0} (s : SinkState) (text : List ℕ) → Writes {T = T} s s text (Err NoMemory)
writes_nothing s text = record {
  counted = refl;
  stands = record { same = refl; ok = tt };
  ok = tt;
  err = stopped_at_once s.written text;
}

-- no text
pub writes_none : {T : Type 0} (s : SinkState) (t : T) → Writes {T = T} s s [] (Ok t)
writes_none s t = record { counted = refl; stands = record { same = refl; ok = refl }; ok = appended_nothing s.written; err = tt }

-- the last write of a longer text
pub writes_then : {T U : Type 0} (s0 s1 s2 : SinkState) (x y : List ℕ) (t : T) (r : Result U WriteStop)
    → Writes {T = T} s0 s1 x (Ok t) → Writes s1 s2 y r → Writes s0 s2 (x ++ y) r
writes_then s0 s1 s2 x y t (Ok u) a b = record {
  counted = b.counted ∙ a.counted;
  stands = record { same = b.stands.same ∙ a.stands.same; ok = b.stands.ok ∙ a.stands.ok };
  ok = appended_both s0.written s1.written s2.written x y a.ok b.ok;
  err = tt;
}
writes_then s0 s1 s2 x y t (Err stop) a b = record {
  counted = subst (λ (n : ℕ). HasStopCause n s2.faults stop) a.counted b.counted;
  stands = record { same = b.stands.same ∙ a.stands.same; ok = tt };
  ok = tt;
  err = stopped_in_second s0.written s1.written s2.written x y a.ok b.err;
}

-- a stop in the middle of a longer text
pub writes_front : {T U : Type 0} (s0 s1 : SinkState) (x y : List ℕ) (stop : WriteStop)
    → Writes {T = T} s0 s1 x (Err stop) → Writes {T = U} s0 s1 (x ++ y) (Err stop)
writes_front s0 s1 x y stop a = record {
  counted = a.counted;
  stands = record { same = a.stands.same; ok = tt };
  ok = tt;
  err = stopped_in_first s0.written s1.written x y a.err;
}

-- the same text
pub writes_text : {T : Type 0} (s0 s1 : SinkState) (x y : List ℕ) (r : Result T WriteStop) → x ≡ y → Writes s0 s1 x r → Writes s0 s1 y r
writes_text {T} s0 s1 x y r e a = subst (λ (text : List ℕ). Writes {T = T} s0 s1 text r) e a
