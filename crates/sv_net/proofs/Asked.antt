-- The first word of the command line decides what the words can ask for.
use Rattle.std.proofs.Common.{◌≡◌, ◌∙◌, ap, sym, map, List, [], ◌∷◌, Some, Err, codes, slice_get}
use Rattle.std.proofs.lemmas.Option.{none-some, same_Some}
use Rattle.clap.specs.Words.{Text}
use Rattle.sv_replay.specs.declared.ports.Ports.{Ports}
use Rattle.sv_net.specs.declared.fault.ProgramFault.{ProgramFault}
use Rattle.sv_net.specs.declared.fault.ProgramFault.TheVariants.{BadWords, Run, Socket}
use Rattle.sv_net.specs.declared.words.Serve.{Serve}
use Rattle.sv_net.specs.declared.words.Words.{Words}
use Rattle.sv_net.specs.declared.words.Words.TheVariants.{Replay, Explain, Server}
use Rattle.sv_net.specs.Words.{AsksFor, AsksToReplay, AsksToServe, ReadsWords}

pub first_text : {A : Type 0} (text : A → Text) (words : List A) (word : A) → Some word ≡ slice_get words 0
    → slice_get (map text words) 0 ≡ Some (text word)
first_text text [] word e = absurd (none-some word (sym e))
first_text text (w ∷ ws) word e = ap (λ a. Some (text a)) (sym (same_Some word w e))

pub asks_server : (texts : List Text) (serve : Serve) → slice_get texts 0 ≡ Some (codes "serve") → AsksToServe texts serve
    → AsksFor texts (Server serve)
asks_server [] serve e serves = absurd (none-some _ e)
asks_server (t ∷ ts) serve e serves = (same_Some t _ e, serves)

pub asks_replay : (texts : List Text) (ports : Ports) → slice_get texts 0 ≡ Some (codes "replay") → AsksToReplay texts ports
    → AsksFor texts (Replay ports)
asks_replay [] ports e asks = absurd (none-some _ e)
asks_replay (t ∷ ts) ports e asks = (same_Some t _ e, asks)

pub asks_explain : (texts : List Text) (ports : Ports) → slice_get texts 0 ≡ Some (codes "explain") → AsksToReplay texts ports
    → AsksFor texts (Explain ports)
asks_explain [] ports e asks = absurd (none-some _ e)
asks_explain (t ∷ ts) ports e asks = (same_Some t _ e, asks)

replay_serve : codes "replay" ≡ codes "serve" → ⊥
replay_serve is = cc

explain_serve : codes "explain" ≡ codes "serve" → ⊥
explain_serve is = cc

explain_replay : codes "explain" ≡ codes "replay" → ⊥
explain_replay is = cc

-- Words that ask for nothing by `replay`, `explain` or `serve` ask for nothing at all.
pub words_ask_nothing : (texts : List Text) → ((ports : Ports) → slice_get texts 0 ≡ Some (codes "replay") → AsksToReplay texts ports → ⊥)
    → ((ports : Ports) → slice_get texts 0 ≡ Some (codes "explain") → AsksToReplay texts ports → ⊥)
    → ((serve : Serve) → slice_get texts 0 ≡ Some (codes "serve") → AsksToServe texts serve → ⊥) → (asked : Words) → AsksFor texts asked → ⊥
words_ask_nothing [] replay explain serve asked asks = asks
words_ask_nothing (t ∷ ts) replay explain serve (Replay ports) asks = replay ports (ap Some asks.0) asks.1
words_ask_nothing (t ∷ ts) replay explain serve (Explain ports) asks = explain ports (ap Some asks.0) asks.1
words_ask_nothing (t ∷ ts) replay explain serve (Server server) asks = serve server (ap Some asks.0) asks.1

-- A fault in the options after the word `serve` is the fault of the whole command line.
pub serve_fault : (texts : List Text) (fault : ProgramFault) → slice_get texts 0 ≡ Some (codes "serve")
    → ReadsWords (AsksToServe texts) (Err fault) → ReadsWords (AsksFor texts) (Err fault)
serve_fault texts BadWords e none = words_ask_nothing texts (λ ports is asks. replay_serve (same_Some _ _ (sym is ∙ e)))
    (λ ports is asks. explain_serve (same_Some _ _ (sym is ∙ e))) (λ serve is asks. none serve asks)
serve_fault texts (Run fault) e is = is
serve_fault texts Socket e never = never

pub replay_fault : (texts : List Text) (fault : ProgramFault) → slice_get texts 0 ≡ Some (codes "replay")
    → ReadsWords (AsksToReplay texts) (Err fault) → ReadsWords (AsksFor texts) (Err fault)
replay_fault texts BadWords e none = words_ask_nothing texts (λ ports is asks. none ports asks)
    (λ ports is asks. explain_replay (same_Some _ _ (sym is ∙ e))) (λ serve is asks. replay_serve (same_Some _ _ (sym e ∙ is)))
replay_fault texts (Run fault) e is = is
replay_fault texts Socket e never = never

pub explain_fault : (texts : List Text) (fault : ProgramFault) → slice_get texts 0 ≡ Some (codes "explain")
    → ReadsWords (AsksToReplay texts) (Err fault) → ReadsWords (AsksFor texts) (Err fault)
explain_fault texts BadWords e none = words_ask_nothing texts (λ ports is asks. explain_replay (same_Some _ _ (sym e ∙ is)))
    (λ ports is asks. none ports asks) (λ serve is asks. explain_serve (same_Some _ _ (sym e ∙ is)))
explain_fault texts (Run fault) e is = is
explain_fault texts Socket e never = never
