-- What a maker knows of the requests so far.
use Rattle.std.specs.Prelude.{◌≡◌, List}
use Rattle.table_maker.specs.Requests.{live_files, last_write, write_count}
use Rattle.table_maker.specs.declared.maker.Maker.{Maker}
use Rattle.table_maker.specs.declared.request.Request.{Request}

pub record Knows (maker : Maker) (before : List Request) : Type 0 where
  pub live : maker.live.items ≡ live_files before
  pub last : maker.last ≡ last_write before
  pub writes : maker.writes ≡ write_count before
