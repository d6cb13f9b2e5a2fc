-- Laws of a buffer that takes a text.
use Prim.Native.Nat.{ℕ, suc, ◌+◌, ◌<◌, ◌≤◌}
use mathlib.Core.List.{List, [], ◌∷◌, ◌++◌, append-nil}
use mathlib.Core.Path.{◌≡◌, refl, sym, ◌∙◌, ap}
use native.Mathlib.Decide.{dec_lt}
use native.Mathlib.Numerals.{add-one}
use native.Mathlib.Omega.{arith}
use denote.MutBor.{MutBor}
use borrow.Author.Tests.{lt-ltb, le-ltb}
use lib.ListN.{length, get_or, set, take, drop, length-append, length-take, length-drop}
use lib.Seq.{take-suc, take_all, drop-cons, set_at, append_snoc, take-append-le, take_at}
use Rattle.base.proofs.Choice.{cond_true, cond_false}
use Rattle.base.specs.Below.{gather_below}
use Rattle.buffer.specs.Buffer.{Buffer, buffer, put, puts, Holds}
use Rattle.buffer.specs.Taken.{Begins, Takes}
use Rattle.buffer.specs.declared.Text.{Text}

put_room : (l : List ℕ) (at b : ℕ) → at < length l → put (buffer l at) b ≡ buffer (set l at b) (at + 1)
unfolding put
put_room l at b h = cond_true _ _ (lt-ltb at (length l) h)

put_full : (l : List ℕ) (at b : ℕ) → length l ≤ at → put (buffer l at) b ≡ buffer l at
unfolding put
put_full l at b h = cond_false _ _ (le-ltb at (length l) h)

puts_append : (t : Buffer) (xs ys : List ℕ) → puts t (xs ++ ys) ≡ puts (puts t xs) ys
unfolding puts
puts_append t [] ys = refl
puts_append t (b ∷ xs) ys = puts_append (put t b) xs ys

-- one byte, where there is room and where there is none
pub takes_room : (t : Text) (b : ℕ) → t.at < length t.cells.now
    → Takes (b ∷ []) t (record { cells = record t.cells { now = set t.cells.now t.at b }; at = t.at + 1 })
unfolding puts
takes_room t b h = record { same = refl; adds = record { done = sym (put_room t.cells.now t.at b h) } }

pub takes_full : (t : Text) (b : ℕ) → length t.cells.now ≤ t.at → Takes (b ∷ []) t t
unfolding puts
takes_full t b h = record { same = refl; adds = record { done = sym (put_full t.cells.now t.at b h) } }

module _ {t : Text} where
  -- nothing
  pub takes_none : Takes [] t t
  unfolding puts
  takes_none = record { same = refl; adds = record { done = refl } }

  -- one text, and then another
  infixl 20 ◌then◌
  pub ◌then◌ : {u v : Text} {xs ys : List ℕ} → Takes xs t u → Takes ys u v → Takes (xs ++ ys) t v
  ◌then◌ {xs = xs} {ys = ys} p q = record {
    same = q.same ∙ p.same;
    adds = record {
      done =
          q.adds.done
          ∙ ap (λ (b : Buffer). puts b ys) p.adds.done
          ∙ sym (puts_append (buffer t.cells.now t.at) xs ys);
    };
  }

  -- the next byte of a word
  pub then_next : {u v : Text} {b : ℕ} (word : List ℕ) (i : ℕ) → i < length word → Takes (take i word) t u → b ≡ get_or word i 0
      → Takes (b ∷ []) u v → Takes (take (i + 1) word) t v
  then_next word i h p e q = rw (add-one, take-suc word i 0, ← e) (p then q)

  -- one more of the texts below a bound
  pub then_more : {u v : Text} {xs : List ℕ} (k : ℕ) (f : ℕ → List ℕ) → Takes (gather_below k f) t u → xs ≡ f k → Takes xs u v
      → Takes (gather_below (k + 1) f) t v
  then_more k f p e q = rw (add-one, ← e) (p then q)

-- ---- a buffer that holds a text

module _ (before : List ℕ) where
  -- a buffer keeps its length
  holds_length : (text after : List ℕ) (count : ℕ) → Holds text before after count → length after ≡ length before
  holds_length text after count h =
      omega (
        arith,
        ap length h.cells,
        length-append (take count text) (drop count before),
        length-take count text,
        length-drop count before,
        h.counted,
      )

  -- one byte more: with room left, the whole text stands in front
  holds_room : (text after : List ℕ) (count b : ℕ) → Holds text before after count → count < length before
      → Holds (text ++ b ∷ []) before (set after count b) (count + 1)
  holds_room text after count b h room =
      let whole : length text ≡ count = omega (arith, h.counted) in
      let more : length (text ++ b ∷ []) ≡ count + 1 = length-append text (b ∷ []) ∙ omega arith in
      record {
        counted = omega arith;
        cells =
            ap (λ (l : List ℕ). set l count b) h.cells
            ∙ ap (λ (l : List ℕ). set (l ++ drop count before) count b) (take_all count text (omega arith))
            ∙ ap (λ (l : List ℕ). set (text ++ l) count b) (drop-cons before count 0 room)
            ∙ set_at text (get_or before count 0) (drop (suc count) before) b count whole
            ∙ sym (append_snoc text b (drop (suc count) before))
            ∙ ap (λ (l : List ℕ). l ++ drop (suc count) before) (sym (take_all (count + 1) (text ++ b ∷ []) (omega arith)))
            ∙ ap (λ (n : ℕ). take (count + 1) (text ++ b ∷ []) ++ drop n before) (sym (add-one count));
      }

  -- without, nothing changes
  holds_full : (text after : List ℕ) (count b : ℕ) → Holds text before after count → length before ≤ count
      → Holds (text ++ b ∷ []) before after count
  holds_full text after count b h full = record {
    counted = omega (arith, h.counted, length-append text (b ∷ []));
    cells =
        h.cells
        ∙ ap (λ (l : List ℕ). l ++ drop count before) (sym (take-append-le count text (b ∷ []) (omega (arith, h.counted))));
  }

  -- a text more
  holds_puts : (more text after next : List ℕ) (count last : ℕ) → Holds text before after count
      → buffer next last ≡ puts (buffer after count) more → Holds (text ++ more) before next last
  unfolding puts
  holds_puts [] text after next count last h e =
      let same : after ≡ next = ap (λ (t : Buffer). t.cells) (sym e) in
      let place : count ≡ last = ap (λ (t : Buffer). t.at) (sym e) in
      rw (append-nil, ← same, ← place) h
  holds_puts (b ∷ more) text after next count last h e =
      rw (← append_snoc text b more)
      (elim (dec_lt count (length before)) [
        | yes room ↦ holds_puts more (text ++ b ∷ []) (set after count b) next (count + 1) last (holds_room text after count b h room)
            (e ∙ ap (λ (t : Buffer). puts t more) (put_room after count b (omega (arith, holds_length text after count h))))
        | no full ↦ holds_puts more (text ++ b ∷ []) after next count last (holds_full text after count b h (omega arith))
            (e ∙ ap (λ (t : Buffer). puts t more) (put_full after count b (omega (arith, holds_length text after count h))))
      ])

-- a text put at the start
pub holds_taken : {out : MutBor (List ℕ)} {text : List ℕ} {t u : Text} → Begins out t → Takes text t u
    → Holds text out.now u.cells.now u.at
holds_taken {out} {text} {t} {u} p q =
    holds_puts out.now text [] out.now u.cells.now 0 u.at (record { counted = omega arith; cells = refl })
    (rw (p.cells, p.at) at q.adds.done)

-- a text that fits is held whole
pub holds_whole : {text before after : List ℕ} {count : ℕ} → Holds text before after count → length text ≤ length before
    → take count after ≡ text
holds_whole {text} {before} {after} {count} h room =
    let all : length text ≡ count = omega (arith, h.counted) in
    rw (h.cells, take_all count text (omega arith)) (take_at text (drop count before) count all)
