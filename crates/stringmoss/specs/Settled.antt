-- One outcome: under C's names too, each number handed out, each word of the book and each byte of the output is fixed by the promise.
use Rattle.std.specs.Prelude.{ℕ, ◌≡◌, List}
use Rattle.paper.specs.Calls.{Call, Kept}
use Rattle.stringmoss.specs.Linked.{RanInto, EvenedInto}

pub record LinkedSettled : Type 0 where
  pub calls :
      (book : List ℕ) (call : Call) (number number' : ℕ) (figures figures' left left' : List ℕ)
      → Kept book call (record { number = number; figures = figures }) left → Kept book call (record { number = number'; figures = figures' }) left'
      → (number ≡ number') × (figures ≡ figures') × (left ≡ left')
  pub runs :
      (book left left' sheet before after after' : List ℕ) (number line start length written number' line' start' length' written' : ℕ)
      → RanInto book left sheet before after number line start length written
      → RanInto book left' sheet before after' number' line' start' length' written'
      → (left ≡ left') × (after ≡ after')
      × (number ≡ number') × (line ≡ line') × (start ≡ start') × (length ≡ length') × (written ≡ written')
  pub evenings :
      (book before after after' : List ℕ) (number written number' written' : ℕ)
      → EvenedInto book before after number written → EvenedInto book before after' number' written'
      → (after ≡ after') × (number ≡ number') × (written ≡ written')
