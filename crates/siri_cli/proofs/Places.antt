-- What clap reads of the words of each command: it takes them, whatever the arguments are, and each argument is the word in its place.
use Rattle.std.proofs.Common.{◌≡◌, ◌∙◌, refl, ap, sym, codes, Option, Some}
use Rattle.std.specs.Prelude.{unwrap_or}
use Rattle.clap.specs.Words.{Text}
use Rattle.clap.proofs.OnLiterals.{clap_on_literals}
use Rattle.siri_cli.specs.inner.Values.{TakesWords, value_of, load_app, load_words, get_app, get_words, serve_app, serve_words, consume_app, consume_words}

module _ (seed count : Text) where
  pub load_takes : TakesWords load_app (load_words seed count)
  unfolding TakesWords load_app clap_on_literals
  load_takes = refl

  pub load_seed : value_of load_app (load_words seed count) (codes "SEED") ≡ Some seed
  unfolding value_of load_app clap_on_literals
  load_seed = refl

  pub load_count : value_of load_app (load_words seed count) (codes "COUNT") ≡ Some count
  unfolding value_of load_app clap_on_literals
  load_count = refl

module _ (producer : Text) where
  pub get_takes : TakesWords get_app (get_words producer)
  unfolding TakesWords get_app clap_on_literals
  get_takes = refl

  pub get_producer : value_of get_app (get_words producer) (codes "PRODUCER") ≡ Some producer
  unfolding value_of get_app clap_on_literals
  get_producer = refl

module _ (name listen count : Text) where
  pub serve_takes : TakesWords serve_app (serve_words name listen count)
  unfolding TakesWords serve_app clap_on_literals
  serve_takes = refl

  pub serve_name : value_of serve_app (serve_words name listen count) (codes "NAME") ≡ Some name
  unfolding value_of serve_app clap_on_literals
  serve_name = refl

  pub serve_listen : value_of serve_app (serve_words name listen count) (codes "LISTEN") ≡ Some listen
  unfolding value_of serve_app clap_on_literals
  serve_listen = refl

  pub serve_count : value_of serve_app (serve_words name listen count) (codes "COUNT") ≡ Some count
  unfolding value_of serve_app clap_on_literals
  serve_count = refl

module _ (name listen producer count : Text) where
  pub consume_takes : TakesWords consume_app (consume_words name listen producer count)
  unfolding TakesWords consume_app clap_on_literals
  consume_takes = refl

  pub consume_name : value_of consume_app (consume_words name listen producer count) (codes "NAME") ≡ Some name
  unfolding value_of consume_app clap_on_literals
  consume_name = refl

  pub consume_listen : value_of consume_app (consume_words name listen producer count) (codes "LISTEN") ≡ Some listen
  unfolding value_of consume_app clap_on_literals
  consume_listen = refl

  pub consume_producer : value_of consume_app (consume_words name listen producer count) (codes "PRODUCER") ≡ Some producer
  unfolding value_of consume_app clap_on_literals
  consume_producer = refl

  pub consume_count : value_of consume_app (consume_words name listen producer count) (codes "COUNT") ≡ Some count
  unfolding value_of consume_app clap_on_literals
  consume_count = refl

-- what was read is what was given
pub is_given : (value : Option Text) (read given : Text) → value ≡ Some read → value ≡ Some given → read ≡ given
is_given value read given is_read is_placed = ap (λ text. unwrap_or text read) (sym is_read ∙ is_placed)
