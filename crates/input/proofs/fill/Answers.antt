-- `input::fill`: what a read gives stands behind what was read before.
use Rattle.std.proofs.Common.{◌≡◌, ℕ, ◌+◌, ◌≤◌, List, ◌++◌, rules, length, take, drop, ap, ◌∙◌, drop_at, length-take-le, sym, subst}
use Rattle.std.proofs.KnownBytes.{Consumes-trans}
use Rattle.std.specs.Io.KnownBytes.{Consumes}
use borrow.Rule.Slice.PartMut.{put_mid, post_of}
use lib.Seq.{take-add, take-append-le, take_at}
use Rattle.input.proofs.fill.Goals as goal

-- the first cells of a list whose part from `at` on begins with other ones
read_more : (at room more : ℕ) (cells part : List ℕ) → at ≤ length cells → more ≤ length part
    → take (at + more) (put_mid at room cells part) ≡ take at cells ++ take more part
read_more at room more cells part h k =
    let front = take at cells in
    let rest = post_of at room cells in
    let whole : length front ≡ at = length-take-le at cells h in
    take-add at more (front ++ (part ++ rest))
    ∙ ap (λ (l : List ℕ). l ++ take more (drop at (front ++ (part ++ rest)))) (take_at front (part ++ rest) at whole)
    ∙ ap (λ (l : List ℕ). front ++ take more l) (drop_at front (part ++ rest) at whole)
    ∙ ap (λ (l : List ℕ). front ++ l) (take-append-le more part rest k)

pub loop-count-preserved : goal.loop-count-preserved
loop-count-preserved g c = record {
  within = search rules;
  kept = search rules;
  bytes =
      subst (Consumes _ _) (sym (read_more _ _ _ _ _ c.loop-count.invariant.within c.in-Ok.ensures.bound.0))
      (Consumes-trans _ _ _ _ _ c.loop-count.invariant.bytes c.in-Ok.ensures.bytes.0);
}
