-- `soundness::is_zeros` meets its contract: all words equal 0. Assumes nothing.
use mathlib.Core.Path.{◌≡◌, refl, ap, ◌∙◌}
use mathlib.Core.Bool.{Bool, ◌&&◌}
use mathlib.Core.List.{List, [], ◌∷◌}
use Prim.Native.Nat.{ℕ}
use lib.Dec.{eqb}
use borrow.Author.Rules.{rules}
use Rattle.std.proofs.lemmas.Iterator.{YieldsList-from_slice}
use Rattle.std.proofs.lemmas.Iterator.Search.{all_from_yields_List}
use Rattle.std.proofs.Common.{tests}
use Rattle.std.specs.List.{list_all}
use Rattle.paper.specs.Book.{is_zeros}
use Rattle.soundness.proofs.is_zeros.Goals as goal

all_zero : (ns : List ℕ) → list_all (λ n. eqb n 0) ns ≡ is_zeros ns
unfolding is_zeros
all_zero [] = refl
all_zero (n ∷ ns) = ap (λ (b : Bool). eqb n 0 && b) (all_zero ns)

pub returns : goal.returns
returns c = let all : c.all.result ≡ list_all (λ n. eqb n 0) c.args.words.now = all_from_yields_List (λ n. eqb n 0) _ _ _ c.all.ensures.ran (YieldsList-from_slice c.args.words.now cc) (λ x b q k. search (rules, tests)) in all ∙ all_zero c.args.words.now
