-- A text in a lent buffer. A byte is its ASCII number.
use Rattle.std.specs.Prelude.{ℕ, ◌+◌, min, ◌≡◌, List, length}
use Rattle.std.proofs.lemmas.List.Edits.{sets}
use Rattle.text.specs.declared.Page.{Page}

-- the buffer once a text is laid at a place, byte by byte; what would stand past the buffer's end is not stored
unfoldable pub laid : List ℕ → ℕ → List ℕ → List ℕ
laid out at text = sets out at text

-- the place right after a text, or the buffer's end where that comes first: it is never past the buffer, and no sum wraps
abbrev pub after : List ℕ → ℕ → List ℕ → ℕ
after out at text = min (at + length text) (length out)

-- a text was laid in a buffer at a place: what the buffer is at exit, and the place that is returned
pub record Laid (out : List ℕ) (at : ℕ) (text : List ℕ) (exit : List ℕ) (place : ℕ) : Type 0 where
  pub buffer : exit ≡ laid out at text
  pub next : place ≡ after out at text

-- a page once a text is laid where it ended: the same buffer, with the text in it, and the place right after the text
unfoldable pub written : Page → List ℕ → Page
written page text =
    record {
      buffer = record page.buffer { now = laid page.buffer.now page.end text };
      end = after page.buffer.now page.end text;
    }
